-- Document 01, 'Checking', of a proof where it lies in bytes: when it holds. Assumes nothing.
use Rattle.std.specs.Prelude.{Bool, ◌&&◌}
use Rattle.terms.specs.Bits.{Bytes, same_bytes}
use Rattle.terms.specs.Fields.{slice}
use Rattle.proofrecords.specs.ProofBytes.{presence_in, absence_in}
use Rattle.verify_neighbours.specs.Neighbours.{leads, neighbours}

-- The proof x is of the key k: in both forms its key stands at the same place.
abbrev pub of_key : Bytes → Bytes → Bool
of_key k x = same_bytes k (slice 8 32 x)

-- The presence proof x holds: its key is the one asked for, and its steps lead to the root.
abbrev pub presence_holds : Bytes → Bytes → Bytes → Bool
presence_holds root k x = same_bytes k (presence_in x).key && leads root x

-- The absence proof x holds: its key is the one asked for, and its neighbours show that it is absent.
abbrev pub absence_proof_holds : Bytes → Bytes → Bytes → Bool
absence_proof_holds root k x = same_bytes k (absence_in x).key && neighbours root k x
