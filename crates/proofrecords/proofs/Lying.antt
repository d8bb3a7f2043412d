-- Steps where they lie in the bytes of a presence proof, 33 apart after the head. Assumes nothing.
use Prim.Native.Nat.{ℕ, suc, ◌+◌, ◌*◌, ◌-◌, ◌<◌, ◌≤◌}
use native.Mathlib.Omega.{arith}
use mathlib.Core.Path.{◌≡◌}
use lib.ListN.{get_or, drop}
use lib.Seq.{get_or-drop, drop-drop}
use Rattle.terms.specs.Bits.{Bytes}

pub first_at : (i : ℕ) (x : Bytes) → get_or (drop i x) 0 0 ≡ get_or x i 0
first_at i x = let e : i + 0 ≡ i = omega arith in rw e at (get_or-drop i x 0 0)

-- the bytes from step i on
abbrev pub from_step : ℕ → Bytes → Bytes
from_step i x = drop (72 + 33 * i) x

pub next_step : (i : ℕ) (x : Bytes) → drop 33 (from_step i x) ≡ from_step (i + 1) x
next_step i x =
    let e : 72 + 33 * i + 33 ≡ 72 + 33 * (i + 1) = omega arith in
    rw (← e) (drop-drop 33 (72 + 33 * i) x)

-- how many are left at step i of n
pub one_less : (i n : ℕ) → i < n → n - i ≡ suc (n - (i + 1))
one_less i n h = omega arith

pub none_left : (i n : ℕ) → n ≤ i → n - i ≡ 0
none_left i n h = omega arith
