-- What a look said, and the entry in the middle. Assumes nothing.
use Prim.Native.Nat.{ℕ, zero, suc, ◌+◌, ◌/◌, ◌<◌}
use native.Mathlib.Omega.{arith}
use mathlib.Core.Path.{◌≡◌, refl, ap, ◌∙◌}
use mathlib.Core.Bool.{Bool, true, false}
use mathlib.Core.List.{List, [], ◌∷◌}
use lib.ListN.{length, get_or}
use Rattle.terms.specs.Bits.{Place}
use Rattle.terms.specs.Records.{Record, Slot, free}
use Rattle.indexed.specs.Index.{Look, too_small, too_great, meets, look_at}
use Rattle.indexed.proofs.Halving.{in_middle}
use Rattle.indexed.proofs.Searching.{node_met, root_met}
use Rattle.index_node.specs.Looks.{look_says}
use Rattle.std.specs.declared.cmp.Ordering.{Ordering}
use Rattle.std.specs.declared.cmp.Ordering.TheVariants.{Less, Equal, Greater}
use Rattle.index_entry.specs.Entries.{look_for}

-- what a look says, back
pub was_small : (l : Look) (r : Ordering) → r ≡ look_says l → r ≡ Less → l ≡ too_small
was_small too_small x e f = refl
was_small too_great x e f = let z : ◌≡◌ {A = ℕ} 0 1 = cc in absurd (omega arith)
was_small (meets r) x e f = let z : ◌≡◌ {A = ℕ} 0 1 = cc in absurd (omega arith)

pub was_great : (l : Look) (r : Ordering) → r ≡ look_says l → r ≡ Greater → l ≡ too_great
was_great too_small x e f = let z : ◌≡◌ {A = ℕ} 0 1 = cc in absurd (omega arith)
was_great too_great x e f = refl
was_great (meets r) x e f = let z : ◌≡◌ {A = ℕ} 0 1 = cc in absurd (omega arith)

pub was_met : (l : Look) (k : Ordering) → k ≡ look_says l → k ≡ Equal → (r : Record) × (l ≡ meets r)
was_met too_small x e f = let z : ◌≡◌ {A = ℕ} 0 1 = cc in absurd (omega arith)
was_met too_great x e f = let z : ◌≡◌ {A = ℕ} 0 1 = cc in absurd (omega arith)
was_met (meets r) x e f = (r, refl)

-- an entry of the table, whatever stands for those beyond it
pub any_default : (xs : List ℕ) (k d e : ℕ) → k < length xs → get_or xs k d ≡ get_or xs k e
any_default [] k d e l = absurd (omega arith)
any_default (x ∷ xs) zero d e l = refl
any_default (x ∷ xs) (suc k) d e l = any_default xs k d e (omega arith)

-- the entry looked at is the one in the middle
pub in_middle_lem : (look : Record → Look) (table : List ℕ) (s : List Slot) (lo hi : ℕ) {n e : ℕ} → n ≡ length s → e ≡ get_or table ((lo + hi) / 2) n →
    look_at look (get_or s e free) ≡ in_middle look table s lo hi
in_middle_lem look table s lo hi m h = ap (λ k. look_at look (get_or s k free)) (h ∙ ap (get_or table ((lo + hi) / 2)) m)

-- what is met is the record looked at
pub own_met : (root : Bool) (v : ℕ) (p : Place) (q r : Record) → look_for root v p q ≡ meets r → q ≡ r
own_met true v p q r e = (root_met v q r e).0
own_met false v p q r e = (node_met v p q r e).0
