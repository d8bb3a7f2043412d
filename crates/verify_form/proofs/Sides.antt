-- The sides of a presence proof's steps as a loop tests them, from the leaf upwards. Assumes nothing.
use Prim.Native.Nat.{ℕ, ◌+◌, ◌*◌, ◌-◌, ◌<◌, ◌≤◌}
use mathlib.Core.Path.{◌≡◌, ap, ap₂, ◌∙◌}
use mathlib.Core.Bool.{true, false, ◌&&◌}
use lib.ListN.{get_or}
use lib.Dec.{leb}
use borrow.Author.Tests.{le-leb, lt-leb}
use Rattle.terms.specs.Bits.{Bytes}
use Rattle.proofrecords.specs.ProofBytes.{sides_right}
use Rattle.proofrecords.proofs.Lying.{first_at, from_step, next_step, one_less, none_left}

sides_left : (i n : ℕ) (x : Bytes) → i < n →
    sides_right (n - i) (from_step i x) ≡ leb (get_or x (72 + 33 * i) 0) 1 && sides_right (n - (i + 1)) (from_step (i + 1) x)
sides_left i n x h =
    rw (one_less i n h) (ap₂ ◌&&◌ (ap (λ (b : ℕ). leb b 1) (first_at (72 + 33 * i) x)) (ap (sides_right (n - (i + 1))) (next_step i x)))

pub no_sides_left : (i n : ℕ) (x : Bytes) → n ≤ i → sides_right (n - i) (from_step i x) ≡ true
no_sides_left i n x h = rw (none_left i n h)

pub sides_off : (i n : ℕ) (x : Bytes) → i < n → 1 < get_or x (72 + 33 * i) 0 → sides_right (n - i) (from_step i x) ≡ false
sides_off i n x h e = sides_left i n x h ∙ rw (lt-leb (get_or x (72 + 33 * i) 0) 1 e)

pub sides_on : (i n : ℕ) (x : Bytes) → i < n → get_or x (72 + 33 * i) 0 ≤ 1 → sides_right (n - i) (from_step i x) ≡ sides_right (n - (i + 1)) (from_step (i + 1) x)
sides_on i n x h e = sides_left i n x h ∙ rw (le-leb (get_or x (72 + 33 * i) 0) 1 e)
