-- The number of grants by the case of what was tested first, and of what is sighted at the root. Assumes nothing.
use Prim.Native.Nat.{ℕ}
use mathlib.Core.Path.{◌≡◌, ap, sym, ◌∙◌, subst}
use mathlib.Core.Bool.{true, false}
use mathlib.Core.List.{List, []}
use mathlib.Core.Option.{none, some}
use lib.ListN.{length}
use Rattle.terms.specs.declared.Form.TheVariants.{Counted as counted}
use Rattle.terms.specs.Bits.{Bytes}
use Rattle.terms.specs.Records.{Record, used}
use Rattle.meaning.specs.Sight.{Sight, matches, nothing, spoilt}
use Rattle.meaning.specs.Calls.{refused, accepted}
use Rattle.meaning.specs.Reading.{spoilt_record, refusal_of}
use Rattle.meaning.specs.Counting.{weight, number_at, read_number_by}
use Rattle.indexed.specs.Index.{root_by, by_table}
use Rattle.indexed.proofs.Scanned.{without_table}
use Rattle.layout.specs.Headers.{size_right, header_of}
use Rattle.layout.specs.Stores.{store_of, slot_no}
use Rattle.sights.specs.Sights.{Sighted}
use Rattle.sights.specs.declared.Sight as declared-sight
use Rattle.sights.specs.declared.Sight.TheVariants as sight
use Rattle.promises.specs.Headed.{by_header, as_many}
use Rattle.read_open.specs.Opening.{opened}
use Rattle.read_open.proofs.Opening as opening
use Rattle.read_number.specs.Numbers.{number_says, number_answer_by}
use Rattle.contracts.specs.Numbers.{number_answer}
use Rattle.contracts.proofs.Heading.{as_many_lem, not_as_many}
use Rattle.std.specs.Prelude.{Result, Ok, Err}
use Rattle.refusal_numbers.specs.Refusals.{number as number_of, code}
use Rattle.refusal_numbers.specs.declared.Refusal.{Refusal}
use Rattle.refusal_numbers.specs.declared.ReadRefusal.{ReadRefusal}
use Rattle.refusal_numbers.specs.declared.ReadRefusal.TheVariants.{Plain}

-- what was sighted
module _ (s : Bytes) (x : Sight) where
  pub number_weighs : {r : declared-sight.Sight} {i n : ℕ} → Sighted (store_of s).slots x r → r ≡ sight.Matches i →
      ((q : Record) → slot_no counted i s ≡ used q → n ≡ weight q) → number_says (Ok n) ≡ number_at x
  unfolding number_says
  number_weighs {r} {i} {n} h e f =
      let g = subst (Sighted (store_of s).slots x) e h in
      ap accepted (f g.1.0 g.1.1) ∙ ap number_at (sym g.1.2)

  pub number_none : x ≡ nothing → number_says (Ok 0) ≡ number_at x
  unfolding number_says
  number_none e = ap number_at (sym e)

  pub number_spoilt : (n : ReadRefusal) (i : ℕ) → x ≡ spoilt i → code n ≡ refusal_of (spoilt_record i) → number_says (Err n) ≡ number_at x
  unfolding number_says
  number_spoilt n i e f = ap refused f ∙ ap number_at (sym e)

-- what was tested first
module _ (s : Bytes) (v : ℕ) where
  pub size_kept : accepted tt ≡ opened s v → size_right counted (length s) ≡ true
  size_kept e = opening.kept_size s v e

  pub number_refused : (table : List ℕ) (r : Refusal) → refused (number_of r) ≡ opened s v → number_says (Err (Plain r)) ≡ number_answer_by s table v
  unfolding number_says number_answer_by
  number_refused table r e = opening.refused_first (number_at (root_by table (store_of s) v)) s v e

  pub number_is_read : (table : List ℕ) (r : Result ℕ ReadRefusal) → accepted tt ≡ opened s v → number_says r ≡ number_at (root_by table (store_of s) v) → number_says r ≡ number_answer_by s table v
  unfolding number_answer_by
  number_is_read table r e f = f ∙ sym (opening.rest_decides (number_at (root_by table (store_of s) v)) s v e)

-- by a table without entries it is that of the scan
pub number_plain : (s : Bytes) (v : ℕ) → number_answer_by s [] v ≡ number_answer s none v
unfolding number_answer_by number_answer
number_plain s v = ap (λ look. by_header (header_of counted s) (read_number_by look (store_of s) v)) (without_table (store_of s))

-- a table of another length is refused with 1; else its read is one by a table of any length
module _ (s : Bytes) (table : List ℕ) (v : ℕ) where
  pub number_as_many : as_many s table ≡ true → number_answer_by s table v ≡ number_answer s (some table) v
  unfolding number_answer_by number_answer
  number_as_many e = as_many_lem (read_number_by (by_table table (store_of s)) (store_of s) v) s table e

  pub number_not_as_many : as_many s table ≡ false → refused 1 ≡ number_answer s (some table) v
  unfolding number_answer
  number_not_as_many e = not_as_many (read_number_by (by_table table (store_of s)) (store_of s) v) s table e
