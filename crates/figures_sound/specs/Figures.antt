-- Document 02, request 2026-14: the figures of a range as the code answers them, the totals and what is left of the
-- room. Within the code; the contract is in `contracts`. Assumes nothing.
use Rattle.std.specs.Prelude.{ℕ, ◌≡◌, length, Result}
use Rattle.terms.specs.Bits.{Bytes}
use Rattle.meaning.specs.Calls.{Answer, refused, accepted}
use Rattle.quarter.specs.Figures.{Quarter, figures}
use Rattle.promises.specs.Calls.{Does}
use Rattle.meaning.specs.Answers.{room_after}
use Rattle.figures_write.specs.Parts.{each_bytes}
use Rattle.refusal_numbers.specs.Refusals.{answer_of}
use Rattle.refusal_numbers.specs.declared.Refusal.{Refusal}
use Rattle.figures_sound.specs.declared.Totals as declared

-- Over the range: distinct records, and the sum of records over versions.
pub record Totals : Type 0 where
  pub distinct : ℕ
  pub records : ℕ

abbrev pub totals : ℕ → ℕ → Totals
totals d n = record { distinct = d; records = n }

-- What each case of the answer says.
abbrev pub figured_says : Result declared.Totals Refusal → Answer Totals
figured_says = answer_of (λ t. totals t.distinct t.records)

abbrev pub totals_of : Answer Quarter → Answer Totals
totals_of (refused m) = refused m
totals_of (accepted q) = accepted (totals q.distinct q.records)

-- The figures from version first to last give this answer and leave the room so; the store is as it was.
pub record Tells (first last : ℕ) (s room : Bytes) (r : Answer Totals) (left : Bytes) : Type 0 where
  pub answer : Answer Quarter
  pub does : Does (figures first last (length room)) s answer s
  pub says : r ≡ totals_of answer
  pub bytes : left ≡ room_after (λ q. each_bytes q.each) answer room
