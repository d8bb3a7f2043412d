-- The check of a shelf's proof over its contract: two outcomes are equal, each number of refusal is given exactly if its
-- row deserves it, a refused call writes nothing. Assumes nothing.
use Prim.Native.Nat.{ℕ}
use mathlib.Core.Path.{◌≡◌, refl, sym, subst}
use Rattle.terms.specs.Bits.{Bytes}
use Rattle.meaning.proofs.Told.{seen, exports_kept, one_exports}
use Rattle.shelf_rules.proofs.Told.{one_shelf_told}
use Rattle.refusals.specs.Exactly.{Exactly}
use Rattle.refusals.proofs.Exactly.{First, exactly}
use Rattle.refusals.proofs.Shelf.{shelf_first}
use Rattle.contracts.specs.Contracts.{ShelfVerifies}
use Rattle.refusals.specs.Tables.{shelf_verify_rows}

pub one_shelf_verify : {a b c : ℕ} {root k x f g h : Bytes} → ShelfVerifies root c k x f a g → ShelfVerifies root c k x f b h →
    (a ≡ b) × (g ≡ h)
one_shelf_verify {c = c} {root} {k} {x} v w = one_exports (one_shelf_told root c k x) v w

-- 12, 21, 10, 11.
pub shelf_verify_exactly : {root k x f : Bytes} {b r : ℕ} {g : Bytes} → ShelfVerifies root b k x f r g → Exactly (shelf_verify_rows root b k x) r
shelf_verify_exactly {root} {k} {x} {b = b} {r} w =
    exactly (shelf_verify_rows root b k x) r refl (subst (First (shelf_verify_rows root b k x)) (sym (seen w).exported.number) (shelf_first root b k x (seen w).said))

pub refused_shelf_verify_writes_nothing : {root k x f : Bytes} {b r : ℕ} {g : Bytes} → ShelfVerifies root b k x f r g → (r ≡ 0 → ⊥) → g ≡ f
refused_shelf_verify_writes_nothing w = exports_kept w
