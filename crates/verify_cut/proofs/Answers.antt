-- The bytes of one answer. Assumes nothing.
use Prim.Native.Nat.{ℕ, ◌+◌}
use native.Mathlib.Omega.{arith}
use mathlib.Core.Path.{◌≡◌, refl}
use mathlib.Core.List.{[], ◌∷◌, ◌++◌, append-nil}
use lib.ListN.{length, take, drop, set, drop_of_length-le}
use lib.Seq.{take_all}
use Rattle.terms.specs.Bits.{Bytes}
use Rattle.terms.specs.Fields.{zero_bytes}
use Rattle.hash.specs.declared.Hash.{Hash}
use Rattle.hash.specs.Hash.{hash_bytes}

pub refusal_written : (xs ys : Bytes) (v : ℕ) → length xs ≡ 34 → ys ≡ zero_bytes (length xs) → set ys 0 v ≡ v ∷ zero_bytes 33
unfolding zero_bytes
refusal_written xs ys v l e = rw (e, l)

pub value_written : (xs h ys : Bytes) → length xs ≡ 34 → ys ≡ h ++ drop 32 (take 32 (drop 2 (set (set xs 0 0) 1 1))) →
    take 2 (set (set xs 0 0) 1 1) ++ (ys ++ drop 32 (drop 2 (set (set xs 0 0) 1 1))) ≡ 0 ∷ (1 ∷ h)
value_written [] h ys l e = absurd (omega arith)
value_written (x ∷ []) h ys l e = absurd (omega arith)
value_written (x ∷ (y ∷ xs)) h ys l e =
    rw (e, take_all 32 xs (omega arith), drop_of_length-le xs {i = 32} (omega arith), append-nil h, append-nil h)

pub hash_long : (h : Hash) → length (hash_bytes h) ≡ 32
unfolding hash_bytes
hash_long h = refl
