-- Proofs as bytes, byte by byte, and bytes that are no proof, by computing. Assumes nothing.
use mathlib.Core.Path.{◌≡◌, refl}
use mathlib.Core.Bool.{true}
use mathlib.Core.List.{[], ◌∷◌, ◌++◌}
use mathlib.Core.Option.{Option, none, some}
use lib.ListN.{replicate}
use Rattle.terms.specs.Bits.{Bytes}
use Rattle.terms.specs.Fields.{le, slice, field, all_of}
use Rattle.terms.specs.Records.{Presence, Proof, presence, absence}
use Rattle.proofrecords.specs.ProofBytes.{presence_bytes, absence_bytes, proof_bytes, step_count, is_presence, presence_in, left_length, left_part, right_part, flags, neighbours_fit, is_absence, absence_in, proof_in}

-- one step, from the right
abbrev climbing : Presence
climbing = record { key = replicate 32 1; value = replicate 32 2; steps = record { side = true; sibling = replicate 32 3 } ∷ [] }

abbrev climbing_bytes : Bytes
climbing_bytes = (105 ∷ 0 ∷ 0 ∷ 0 ∷ 16 ∷ 0 ∷ 1 ∷ 0 ∷ []) ++ replicate 32 1 ++ replicate 32 2 ++ (1 ∷ replicate 32 3)

-- no step
abbrev alone : Presence
alone = record { key = replicate 32 4; value = replicate 32 5; steps = [] }

abbrev alone_bytes : Bytes
alone_bytes = (72 ∷ 0 ∷ 0 ∷ 0 ∷ 16 ∷ 0 ∷ 0 ∷ 0 ∷ []) ++ replicate 32 4 ++ replicate 32 5

abbrev headed : Bytes → Bytes → Bytes
headed head rest = head ++ replicate 32 9 ++ rest

abbrev between : Option Presence → Option Presence → Proof
between l r = absence (record { key = replicate 32 9; leftward = l; rightward = r })

-- a proof, and its bytes
abbrev Is : Proof → Bytes → Type 0
Is p x = (proof_bytes p ≡ x) × (proof_in x ≡ some p)

abbrev No : Bytes → Type 0
No x = proof_in x ≡ none

presences : Is (presence climbing) climbing_bytes × Is (presence alone) alone_bytes
unfolding presence_bytes le slice field all_of step_count is_presence presence_in proof_in
presences = ((refl, refl), (refl, refl))

-- flags 1, 2, 3
absences :
    Is (between (some climbing) none) (headed (145 ∷ 0 ∷ 0 ∷ 0 ∷ 17 ∷ 0 ∷ 1 ∷ 0 ∷ []) climbing_bytes)
    × Is (between none (some alone)) (headed (112 ∷ 0 ∷ 0 ∷ 0 ∷ 17 ∷ 0 ∷ 2 ∷ 0 ∷ []) alone_bytes)
    × Is (between (some climbing) (some alone)) (headed (217 ∷ 0 ∷ 0 ∷ 0 ∷ 17 ∷ 0 ∷ 3 ∷ 0 ∷ []) (climbing_bytes ++ alone_bytes))
unfolding presence_bytes absence_bytes le slice field all_of step_count is_presence presence_in left_length left_part right_part flags neighbours_fit
    is_absence absence_in proof_in
absences = ((refl, refl), (refl, refl), (refl, refl))

-- too short, a side 2, a byte over, a length that is not the bytes', another kind; flags that do not fit, flags 0 with nobody and with
-- somebody, flags 4, a nested absence proof
others :
    No [] × No (replicate 8 0)
    × No ((105 ∷ 0 ∷ 0 ∷ 0 ∷ 16 ∷ 0 ∷ 1 ∷ 0 ∷ []) ++ replicate 32 1 ++ replicate 32 2 ++ (2 ∷ replicate 32 3))
    × No (climbing_bytes ++ (0 ∷ []))
    × No ((104 ∷ 0 ∷ 0 ∷ 0 ∷ 16 ∷ 0 ∷ 1 ∷ 0 ∷ []) ++ replicate 32 1 ++ replicate 32 2 ++ (1 ∷ replicate 32 3))
    × No ((72 ∷ 0 ∷ 0 ∷ 0 ∷ 18 ∷ 0 ∷ 0 ∷ 0 ∷ []) ++ replicate 32 4 ++ replicate 32 5)
    × No (headed (40 ∷ 0 ∷ 0 ∷ 0 ∷ 17 ∷ 0 ∷ 1 ∷ 0 ∷ []) [])
    × No (headed (40 ∷ 0 ∷ 0 ∷ 0 ∷ 17 ∷ 0 ∷ 0 ∷ 0 ∷ []) [])
    × No (headed (112 ∷ 0 ∷ 0 ∷ 0 ∷ 17 ∷ 0 ∷ 0 ∷ 0 ∷ []) alone_bytes)
    × No (headed (112 ∷ 0 ∷ 0 ∷ 0 ∷ 17 ∷ 0 ∷ 4 ∷ 0 ∷ []) alone_bytes)
    × No (headed (80 ∷ 0 ∷ 0 ∷ 0 ∷ 17 ∷ 0 ∷ 1 ∷ 0 ∷ []) (headed (40 ∷ 0 ∷ 0 ∷ 0 ∷ 17 ∷ 0 ∷ 0 ∷ 0 ∷ []) []))
unfolding slice field all_of step_count is_presence left_length left_part right_part flags neighbours_fit is_absence proof_in
others = (refl, refl, refl, refl, refl, refl, refl, refl, refl, refl, refl)
