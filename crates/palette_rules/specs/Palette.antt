-- Document 02, 2026-04: the proofs for a list of keys in one call. Order: 12; 1, 2; 8; what single calls give; 9.
use Rattle.std.specs.Prelude.{ℕ, zero, suc, ◌+◌, ◌/◌, ◌%◌, Bool, cond, ◌&&◌, List, [], ◌∷◌, length, take, drop, eqb, leb, ltb}
use Rattle.terms.specs.Bits.{Bytes}
use Rattle.terms.specs.Records.{Proof, Store}
use Rattle.meaning.specs.Calls.{Answer, refused, accepted, is_kept}
use Rattle.meaning.specs.Proving.{proof, proof_length}

-- The list is 0 to 256 whole keys of 32 bytes.
unfoldable pub whole_keys : Bytes → Bool
whole_keys list = eqb (length list % 32) 0 && leb (length list / 32) 256

-- Its first n keys, and all of them.
abbrev pub keys_from : ℕ → Bytes → List Bytes
keys_from zero list = []
keys_from (suc n) list = take 32 list ∷ keys_from n (drop 32 list)

unfoldable pub keys_in : Bytes → List Bytes
keys_in list = keys_from (length list / 32) list

-- A proof and those after it; the first refusal is the answer.
abbrev pub followed : Answer Proof → Answer (List Proof) → Answer (List Proof)
followed (refused n) rest = refused n
followed (accepted p) (refused n) = refused n
followed (accepted p) (accepted ps) = accepted (p ∷ ps)

-- What single calls give for the keys, one after the other in the order asked.
abbrev pub in_turn : (Bytes → Answer Proof) → List Bytes → Answer (List Proof)
in_turn single [] = accepted []
in_turn single (k ∷ keys) = followed (single k) (in_turn single keys)

abbrev pub length_together : List Proof → ℕ
length_together [] = 0
length_together (p ∷ ps) = proof_length p + length_together ps

-- 9 if all together don't fit.
abbrev pub fitted_together : ℕ → Answer (List Proof) → Answer (List Proof)
fitted_together room (refused n) = refused n
fitted_together room (accepted ps) = cond (ltb room (length_together ps)) (refused 9) (accepted ps)

-- The proofs for the keys in a version, into `room` bytes: 8, also where there are no keys; then as single calls; 9.
abbrev pub palette_of : (Bytes → Answer Proof) → Store → ℕ → List Bytes → ℕ → Answer (List Proof)
palette_of single st v keys room = cond (is_kept st v) (fitted_together room (in_turn single keys)) (refused 8)

-- By scans, and the numbers by name, as the laws cite them.
unfoldable pub palette : Store → ℕ → List Bytes → ℕ → Answer (List Proof)
palette st v keys room = palette_of (proof st v) st v keys room

abbrev pub key_size : ℕ
key_size = 32

abbrev pub most_keys : ℕ
most_keys = 256
