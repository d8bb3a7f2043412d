-- How a palette's answer is told at the boundary, by a table or without: the number, the room and the array. Within
-- the code; the contracts are in `contracts`. Assumes nothing.
use Rattle.std.specs.Prelude.{ℕ, ◌≡◌, List}
use Rattle.terms.specs.Bits.{Bytes}
use Rattle.terms.specs.Records.{Proof}
use Rattle.terms.specs.Fields.{le}
use Rattle.meaning.specs.Calls.{Answer}
use Rattle.meaning.specs.Answers.{room_after, Exported}
use Rattle.palette_rules.specs.Palette.{length_together}
use Rattle.contracts.specs.Palettes.{proofs_bytes}

-- A palette's answer is told: r is the number of refusal or 0;
-- the room is left as t, the array f for the length of all together as g.
pub record PaletteTold (a : Answer (List Proof)) (room f : Bytes) (r : ℕ) (t g : Bytes) : Type 0 where
  pub exported : Exported a (λ ps. le 4 (length_together ps)) f r g
  pub proofs : t ≡ room_after proofs_bytes a room
