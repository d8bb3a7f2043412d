-- The check of a shelf's proof as the code makes it: the form of both records, then one after the other. No public
-- promise reaches this file. Assumes nothing.
use Rattle.std.specs.Prelude.{ℕ, Bool, cond, ◌||◌, ◌&&◌, length, take, drop, eqb, leb}
use Rattle.terms.specs.Bits.{Bytes}
use Rattle.terms.specs.Fields.{field}
use Rattle.meaning.specs.Calls.{Answer}
use Rattle.meaning.specs.Reading.{Verdict}
use Rattle.meaning.specs.Answers.{found_bytes, Exported}
use Rattle.proofrecords.specs.ProofBytes.{is_presence, is_absence}
use Rattle.shelf_rules.specs.Reading.{by_list}
use Rattle.verify_rules.specs.Reading.{verified}

-- Bytes are one whole record in form.
unfoldable pub is_proof : Bytes → Bool
is_proof x = is_presence x || is_absence x

-- Where the first record ends: by its own length, or at the end where that is past it.
unfoldable pub first_length : Bytes → ℕ
first_length x = cond (leb 4 (length x) && leb (field 0 4 x) (length x)) (field 0 4 x) (length x)

-- The bytes up to e and those after it are the records of a shelf's proof.
unfoldable pub is_shelf : ℕ → Bytes → Bool
is_shelf e x =
    cond (is_presence (take e x)) (is_proof (drop e x)) (is_absence (take e x) && eqb e (length x))

-- One check after the other.
unfoldable pub both : Bytes → Bytes → Bytes → ℕ → Bytes → Answer Verdict
both root part k e x = by_list (verified root part (take e x)) (λ top. verified top k (drop e x))

-- The number and the array of both checks.
pub record ChecksBoth (root part k : Bytes) (e : ℕ) (x f : Bytes) (r : ℕ) (g : Bytes) : Type 0 where
  pub exported : Exported (both root part k e x) found_bytes f r g
