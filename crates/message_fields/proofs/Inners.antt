-- An inner op by its length and its head. Assumes nothing.
use mathlib.Core.Path.{◌≡◌, refl}
use mathlib.Core.Bool.{true, false}
use mathlib.Core.Option.{Option, none, some}
use Prim.Native.Nat.{ℕ}
use lib.ListN.{length, take, drop}
use lib.Dec.{eqb}
use borrow.Author.Tests.{ne_eqb}
use Rattle.terms.specs.Bits.{Bytes, same_bytes}
use Rattle.messages.specs.Reading.{only_if, left_head, right_head, step_in}

pub inner_left : (x : Bytes) → length x ≡ 39 → same_bytes (take 7 x) left_head ≡ true → step_in x ≡ some (record { side = false; sibling = drop 7 x })
unfolding step_in only_if
inner_left x l e = rw (l, e)

pub inner_no_left : (x : Bytes) → length x ≡ 39 → same_bytes (take 7 x) left_head ≡ false → step_in x ≡ none
unfolding step_in only_if
inner_no_left x l e = rw (l, e)

pub inner_right_lem : (x : Bytes) → length x ≡ 37 → same_bytes (take 5 x) right_head ≡ true → step_in x ≡ some (record { side = true; sibling = drop 5 x })
unfolding step_in only_if
inner_right_lem x l e = rw (l, e)

pub inner_no_right : (x : Bytes) → length x ≡ 37 → same_bytes (take 5 x) right_head ≡ false → step_in x ≡ none
unfolding step_in only_if
inner_no_right x l e = rw (l, e)

pub inner_neither : (x : Bytes) → (length x ≡ 39 → ⊥) → (length x ≡ 37 → ⊥) → step_in x ≡ none
unfolding step_in only_if
inner_neither x l r = rw (ne_eqb (length x) 39 l, ne_eqb (length x) 37 r)
