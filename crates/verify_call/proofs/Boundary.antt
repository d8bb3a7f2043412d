-- The 33 bytes of what is found, as they are written.
-- Assumes nothing.
use native.Mathlib.Omega.{arith}
use mathlib.Core.Path.{◌≡◌}
use mathlib.Core.List.{[], ◌∷◌, ◌++◌, append-nil}
use lib.ListN.{length, take, drop, set, drop_of_length-le}
use lib.Seq.{take_all}
use Rattle.terms.specs.Bits.{Bytes}
use Rattle.terms.specs.Fields.{zero_bytes}
use Rattle.terms.specs.Records.{zeros}

-- a first byte 1 and the bytes h after it
pub found_written : (xs h ys : Bytes) → length xs ≡ 33 → ys ≡ h ++ drop 32 (take 32 (drop 1 (set xs 0 1))) →
    take 1 (set xs 0 1) ++ (ys ++ drop 32 (drop 1 (set xs 0 1))) ≡ 1 ∷ h
found_written [] h ys l e = absurd (omega arith)
found_written (x ∷ xs) h ys l e =
    rw (e, take_all 32 xs (omega arith), drop_of_length-le xs {i = 32} (omega arith), append-nil h, append-nil h)

-- 33 zero bytes
pub zeros_found : (xs : Bytes) → length xs ≡ 33 → zero_bytes (length xs) ≡ 0 ∷ zeros
unfolding zero_bytes zeros
zeros_found xs l = rw l
