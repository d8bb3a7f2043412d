-- Document 02, request 2026-01: comparing two versions, over any bytes. Assumes nothing.
use Rattle.std.specs.Prelude.{ℕ, ◌≡◌, List, length}
use Rattle.terms.specs.Bits.{Bytes}
use Rattle.terms.specs.Fields.{le}
use Rattle.meaning.specs.Calls.{Answer}
use Rattle.meaning.specs.Answers.{room_after, Exported}
use Rattle.changed.specs.Changes.{Item, list_bytes}
use Rattle.changed.specs.Compare.{compare}
use Rattle.promises.specs.Calls.{Does}

-- Comparing two versions of the bytes s answers r; the room is left as t, the array f for the number of records as g.
pub record Changes (first second limit : ℕ) (s room f : Bytes) (r : ℕ) (t g : Bytes) : Type 0 where
  pub answer : Answer (List Item)
  pub does : Does (compare first second limit (length room)) s answer s
  pub exported : Exported answer (λ xs. le 4 (length xs)) f r g
  pub list : t ≡ room_after list_bytes answer room
