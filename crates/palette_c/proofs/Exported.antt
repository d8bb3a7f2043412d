-- What is told of an answer: the number, the room and the four bytes. Assumes nothing.
use Prim.Native.Nat.{ℕ}
use mathlib.Core.Path.{◌≡◌, ap, ◌∙◌}
use mathlib.Core.List.{List}
use mathlib.Core.Option.{Option}
use lib.ListN.{length}
use Rattle.terms.specs.Bits.{Bytes}
use Rattle.terms.specs.Records.{Proof}
use Rattle.meaning.specs.Calls.{Answer, refused}
use Rattle.meaning.specs.Answers.{room_after}
use Rattle.meaning.proofs.Told.{exported_as, exported_refusal}
use Rattle.contracts.specs.Palettes.{palette_answer, PalettesBy, proofs_bytes}
use Rattle.palette_c.specs.Export.{PaletteTold}

-- what is told of an answer is told of its equal; and a refusal, which writes nothing
pub palette_as : {a b : Answer (List Proof)} {room f t g : Bytes} {r : ℕ} → a ≡ b → PaletteTold a room f r t g → PaletteTold b room f r t g
palette_as {room = room} e w = record { exported = exported_as e w.exported; proofs = w.proofs ∙ ap (λ x. room_after proofs_bytes x room) e }

pub palette_refusal : {b : Answer (List Proof)} (n : ℕ) (room f : Bytes) → refused n ≡ b → PaletteTold b room f n room f
palette_refusal n room f e = record { exported = exported_refusal e; proofs = ap (λ x. room_after proofs_bytes x room) e }

-- an answer that is told is what the contract says
pub palette_told : {s : Bytes} {by : Option (List ℕ)} {v : ℕ} {list room f t g : Bytes} {r : ℕ} →
    PaletteTold (palette_answer s by v list (length room)) room f r t g → PalettesBy s by v list room f r t g
palette_told w = record { exported = w.exported; proofs = w.proofs }
