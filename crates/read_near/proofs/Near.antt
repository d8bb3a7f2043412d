-- A guess that is right is what a read finds; and where there are none, nothing is asked of them. Assumes nothing.
use Prim.Native.Nat.{ℕ, ◌-◌, ◌*◌, ◌<◌, ◌≤◌}
use native.Mathlib.Omega.{arith}
use mathlib.Core.Path.{◌≡◌, ap, ap₂, sym, ◌∙◌, subst}
use mathlib.Core.Bool.{true}
use mathlib.Core.List.{List, []}
use lib.ListN.{length, get_or}
use Rattle.terms.specs.Bits.{Bytes, Place}
use Rattle.terms.specs.Records.{free, used, Store}
use Rattle.terms.specs.Form.{most_slots}
use Rattle.meaning.proofs.Finding.{is_node_eq}
use Rattle.indexed.specs.Index.{node_by}
use Rattle.layout.specs.Stores.{store_of}
use Rattle.guess.specs.Guess.{NodeAt}
use Rattle.sights.specs.Sights.{Sighted}
use Rattle.sights.specs.declared.Sight.TheVariants as sight
use Rattle.read_near.specs.Near.{Led}

-- Without guesses.
pub led_none : (st : Store) (table : List ℕ) → Led st table []
led_none st table m r l some e = absurd (omega (arith, some))

-- The slot that a guess names holds the node: a read finds its record.
pub near_sighted : (s : Bytes) (table kids : List ℕ) → Led (store_of s) table kids → (m : ℕ) → m < 2 * most_slots → {g j : ℕ} → g ≡ get_or kids m 0 → 1 ≤ g → j ≡ g - 1 →
    (v : ℕ) (p : Place) → NodeAt s j v p true → Sighted (store_of s).slots (node_by table (store_of s) v p) (sight.Matches j)
near_sighted s table kids led m l {g} {j} e some d v p (inside, (r, holds, node)) =
    let w = is_node_eq v p r node in
    let at : get_or kids m 0 - 1 ≡ j = omega (arith, e, d) in
    (inside, (r, holds, sym (ap₂ (node_by table (store_of s)) w.0 w.1) ∙ led m r l (omega (arith, e, some)) (ap (λ z. get_or (store_of s).slots z free) at ∙ holds)))
