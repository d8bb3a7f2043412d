-- Where a record ends. Assumes nothing.
use Prim.Native.Nat.{ℕ, ◌+◌, ◌-◌, ◌<◌, ◌≤◌}
use native.Mathlib.Omega.{arith}
use mathlib.Core.Path.{◌≡◌, refl, sym, ◌∙◌}
use mathlib.Core.Bool.{true, false, false≢true}
use Rattle.std.specs.Prelude.{Some, None}
use Rattle.std.specs.Option.{IsSome}
use Rattle.std.specs.declared.option.Option as option
use lib.ListN.{length, drop, length-drop}
use lib.Dec.{leb}
use borrow.Author.Tests.{le-leb, lt-leb}
use Rattle.terms.specs.Bits.{Bytes}
use Rattle.terms.specs.Fields.{slice, field}
use Rattle.verify_rows.specs.Reading.{own_length, begins}
use Rattle.verify_cut.specs.Row.{PieceEnd}

pub own_length_lem : (a : ℕ) (p : Bytes) → field a 4 p ≡ own_length (drop a p)
unfolding own_length field slice
own_length_lem a p = refl

pub end_short : (p : Bytes) (a : ℕ) → length p - a < 4 → begins (drop a p) ≡ false
unfolding begins
end_short p a h = let d = length-drop a p in rw (lt-leb 4 (length (drop a p)) (omega arith))

module _ (p : Bytes) (a l : ℕ) (within : a ≤ length p) (h : 4 ≤ length p - a) (e : l ≡ field a 4 p) where
  own : l ≡ own_length (drop a p)
  own = e ∙ own_length_lem a p

  there : leb 4 (length (drop a p)) ≡ true
  there = let d = length-drop a p in le-leb 4 (length (drop a p)) (omega arith)

  pub end_small : l < 4 → begins (drop a p) ≡ false
  unfolding begins
  end_small s = let o = own in rw (there, lt-leb 4 (own_length (drop a p)) (omega arith))

  pub end_over : 4 ≤ l → length p - a < l → begins (drop a p) ≡ false
  unfolding begins
  end_over s k =
      let o = own in
      let d = length-drop a p in
      rw (there, le-leb 4 (own_length (drop a p)) (omega arith), lt-leb (own_length (drop a p)) (length (drop a p)) (omega arith))

  pub end_there : 4 ≤ l → l ≤ length p - a → PieceEnd p a (Some (a + l))
  unfolding begins
  end_there s k =
      let o = own in
      let d = length-drop a p in
      (rw (there, le-leb 4 (own_length (drop a p)) (omega arith), le-leb (own_length (drop a p)) (length (drop a p)) (omega arith)), rw o, omega arith)

-- a record ends where one begins
pub end_some : (p : Bytes) (a : ℕ) (r : option.Option ℕ) → PieceEnd p a r → begins (drop a p) ≡ true → IsSome r
end_some p a (Some e) w b = refl
end_some p a None w b = absurd (false≢true (sym w ∙ b))
