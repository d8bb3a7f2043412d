-- Document 02, request 2026-14: the figures of a range of versions, over any bytes. Assumes nothing.
use Rattle.std.specs.Prelude.{ℕ, ◌≡◌, map, ◌++◌, length}
use Rattle.terms.specs.Bits.{Bytes}
use Rattle.terms.specs.Fields.{flat, le}
use Rattle.meaning.specs.Calls.{Answer}
use Rattle.meaning.specs.Answers.{room_after, Exported}
use Rattle.quarter.specs.Figures.{figures_bytes, Quarter, figures}
use Rattle.promises.specs.Calls.{Does}

-- The figures from version first to last answer r; the room is left as t, the array f for the totals of the range as g.
pub record Figures (first last : ℕ) (s room f : Bytes) (r : ℕ) (t g : Bytes) : Type 0 where
  pub answer : Answer Quarter
  pub does : Does (figures first last (length room)) s answer s
  pub exported : Exported answer (λ q. le 4 q.distinct ++ le 4 q.records) f r g
  pub numbers : t ≡ room_after (λ q. flat (map figures_bytes q.each)) answer room

-- The totals by name, as the laws cite them.
abbrev pub totals_bytes : Quarter → Bytes
totals_bytes q = le 4 q.distinct ++ le 4 q.records
