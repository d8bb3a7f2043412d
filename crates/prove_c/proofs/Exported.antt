-- What is told of an answer: the number, the room and the four bytes. Assumes nothing.
use Prim.Native.Nat.{ℕ}
use mathlib.Core.Path.{◌≡◌, ap, ◌∙◌}
use mathlib.Core.List.{List}
use mathlib.Core.Option.{Option}
use lib.ListN.{length}
use Rattle.terms.specs.Bits.{Bytes}
use Rattle.terms.specs.Records.{Proof}
use Rattle.meaning.specs.Calls.{Answer, refused}
use Rattle.meaning.specs.Answers.{room_after}
use Rattle.proofrecords.specs.ProofBytes.{proof_bytes}
use Rattle.contracts.specs.Proves.{prove_answer, ProvesBy}
use Rattle.meaning.proofs.Told.{exported_as, exported_refusal}
use Rattle.prove_c.specs.Export.{ProofTold}

-- what is told of an answer is told of its equal; and a refusal, which writes nothing
pub proof_as : {a b : Answer Proof} {room f t g : Bytes} {r : ℕ} → a ≡ b → ProofTold a room f r t g → ProofTold b room f r t g
proof_as {room = room} e w = record { exported = exported_as e w.exported; proof = w.proof ∙ ap (λ x. room_after proof_bytes x room) e }

pub proof_refusal : {b : Answer Proof} (n : ℕ) (room f : Bytes) → refused n ≡ b → ProofTold b room f n room f
proof_refusal n room f e = record { exported = exported_refusal e; proof = ap (λ x. room_after proof_bytes x room) e }

-- an answer that is told is what the contract says
pub proof_told : {s : Bytes} {by : Option (List ℕ)} {v : ℕ} {k room f t g : Bytes} {r : ℕ} → ProofTold (prove_answer s by v k (length room)) room f r t g →
    ProvesBy s by v k room f r t g
proof_told w = record { exported = w.exported; proof = w.proof }
