-- 2026-08: how the records of a run are entered in the target, each in its own slot. No public promise reaches this
-- file. Assumes nothing.
use Rattle.std.specs.Prelude.{ℕ, ◌<◌, ◌≡◌, Bool, true, false, ◌||◌, List, get_or, set}
use Rattle.std.proofs.Math.Option.{none, some}
use Rattle.terms.specs.Bits.{Place}
use Rattle.terms.specs.Records.{Record, Slot, free, used}
use Rattle.meaning.specs.Store.{is_node, find, marked}
use Rattle.rescue_rules.specs.Rescue.{taken}
use Rattle.rescue_rules.specs.Joining.{met_at}

-- Slot i is the lowest that holds the node (v, p), and this is its record.
pub record LowestAt (s : List Slot) (v : ℕ) (p : Place) (i : ℕ) (r : Record) : Type 0 where
  pub at : get_or s i free ≡ used r
  pub found : find v p s ≡ some r
  pub lowest : (j : ℕ) (q : Record) → j < i → get_or s j free ≡ used q → is_node v p q ≡ false

-- The target's slots t after the node (v, p) was put into its lowest slot, retired since n; a node that the source
-- lacks changes nothing.
pub data Put (s : List Slot) (n v : ℕ) (p : Place) (t : List Slot) : List Slot → Type 0 where
  nothing : find v p s ≡ none → Put s n v p t t
  puts : {i : ℕ} {r : Record} → LowestAt s v p i r → Put s n v p t (set t i (used (marked n r)))

-- The target's slots t after all nodes met were entered, retired since `since`: where t held a set of nodes, u holds
-- those and the ones met.
abbrev pub Entered : ℕ → List Slot → ℕ → ℕ → ℕ → Place → List Slot → List Slot → Type 0
Entered n s since a b p t u =
    (nodes : ℕ → Place → Bool) (setting : ℕ → Place → ℕ) → t ≡ taken nodes setting s →
    ((w : ℕ) (q : Place) → met_at n s a b p w q ≡ true → setting w q ≡ since) →
    u ≡ taken (λ w q. nodes w q || met_at n s a b p w q) setting s
