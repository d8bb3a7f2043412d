-- The grant at a position by the case of what was tested first, and of what is sighted at the root. Assumes nothing.
use Prim.Native.Nat.{ℕ, ◌<◌, ◌≤◌}
use mathlib.Core.Path.{◌≡◌, refl, ap, ap₂, sym, ◌∙◌, subst}
use mathlib.Core.Bool.{Bool, true, false, cond}
use mathlib.Core.List.{List, [], ◌∷◌}
use mathlib.Core.Option.{none, some}
use lib.ListN.{length}
use lib.Dec.{ltb}
use borrow.Author.Tests.{lt-ltb, le-ltb}
use Rattle.terms.specs.declared.Form.TheVariants.{Counted as counted}
use Rattle.terms.specs.Bits.{Bytes, longer}
use Rattle.terms.specs.Records.{Grant, Record, used}
use Rattle.meaning.specs.Sight.{Sight, matches, nothing, spoilt}
use Rattle.meaning.specs.Calls.{Answer, refused, accepted}
use Rattle.meaning.specs.Reading.{spoilt_record, refusal_of}
use Rattle.meaning.specs.Counting.{weight, at_body, descend, position_at, read_position_by}
use Rattle.indexed.specs.Index.{root_by, by_table}
use Rattle.indexed.proofs.Scanned.{without_table}
use Rattle.layout.specs.Headers.{size_right, header_of}
use Rattle.layout.specs.Slots.{slot_of, counts_in}
use Rattle.layout.specs.Stores.{store_of, slot_no, slot_in}
use Rattle.layout.proofs.Stores.{slot_at_lem}
use Rattle.sights.specs.Sights.{Sighted}
use Rattle.sights.specs.declared.Sight as declared-sight
use Rattle.sights.specs.declared.Sight.TheVariants as sight
use Rattle.promises.specs.Headed.{by_header, as_many}
use Rattle.read_open.specs.Opening.{opened}
use Rattle.read_open.proofs.Opening as opening
use Rattle.read_step.specs.Walk.{body_in}
use Rattle.read_step.proofs.Seeing.{body_is, inside}
use Rattle.read_position.specs.Positions.{position_answer_by}
use Rattle.contracts.specs.Numbers.{position_answer}
use Rattle.contracts.proofs.Heading.{as_many_lem, not_as_many}
use Rattle.read_descent.specs.Parts.{position_says, kids_from, body_at}
use Rattle.std.specs.Prelude.{Result, Ok, Err}
use Rattle.refusal_numbers.specs.Refusals.{number as number_of, code}
use Rattle.refusal_numbers.specs.declared.Refusal.{Refusal}
use Rattle.refusal_numbers.specs.declared.ReadRefusal.{ReadRefusal}
use Rattle.refusal_numbers.specs.declared.ReadRefusal.TheVariants.{Plain}
use Rattle.refusal_numbers.specs.declared.Refusal.TheVariants.{PastNumber}
use Rattle.read_descent.specs.declared.Grant as declared
use Rattle.read_descent.proofs.Descending.{counts_are_lem}

choose_yes : {b : Bool} (x y : Answer Grant) → b ≡ true → cond b x y ≡ x
choose_yes x y e = ap (λ c. cond c x y) e

choose_no : {b : Bool} (x y : Answer Grant) → b ≡ false → cond b x y ≡ y
choose_no x y e = ap (λ c. cond c x y) e

-- what was sighted
module _ (s : Bytes) (table : List ℕ) (x : Sight) (n : ℕ) where
  abbrev Says : Answer Grant → Type 0
  Says a = a ≡ position_at (by_table table (store_of s)) x n

  module _ {r : declared-sight.Sight} {i w : ℕ} (h : Sighted (store_of s).slots x r) (e : r ≡ sight.Matches i)
      (weighs : (q : Record) → slot_no counted i s ≡ used q → w ≡ weight q) where
    it : Sighted (store_of s).slots x (sight.Matches i)
    it = subst (Sighted (store_of s).slots x) e h

    abbrev q : Record
    q = it.1.0

    is : slot_of (slot_in counted i s) ≡ used q
    is = sym (slot_at_lem counted s i (inside s x h e)) ∙ it.1.1

    its : w ≡ weight q
    its = weighs q it.1.1

    pub past_number : w ≤ n → Says (position_says (Err (Plain PastNumber)))
    unfolding position_says
    past_number l = sym (ap (λ y. position_at (by_table table (store_of s)) y n) it.1.2 ∙ choose_no _ (refused 20) (le-ltb n (weight q) (subst (λ m. m ≤ n) its l)))

    pub from_root : n < w → (a : Result declared.Grant ReadRefusal) → position_says a ≡ body_at s table [] i n → Says (position_says a)
    unfolding body_at longer
    from_root l a f =
        f
        ∙ ap₂ (λ b t. at_body [] b t n (kids_from s table [])) (sym (body_is (slot_in counted i s) q is)) (sym (counts_are_lem (slot_in counted i s) q is))
        ∙ sym (ap (λ y. position_at (by_table table (store_of s)) y n) it.1.2 ∙ choose_yes _ (refused 20) (lt-ltb n (weight q) (subst (λ m. n < m) its l)))

  pub at_nothing : x ≡ nothing → Says (position_says (Err (Plain PastNumber)))
  unfolding position_says
  at_nothing e = sym (ap (λ y. position_at (by_table table (store_of s)) y n) e)

  pub at_spoilt : (m : ReadRefusal) (i : ℕ) → x ≡ spoilt i → code m ≡ refusal_of (spoilt_record i) → Says (position_says (Err m))
  unfolding position_says
  at_spoilt m i e f = ap refused f ∙ sym (ap (λ y. position_at (by_table table (store_of s)) y n) e)

-- what was tested first
module _ (s : Bytes) (v n : ℕ) where
  pub size_kept : accepted tt ≡ opened s v → size_right counted (length s) ≡ true
  size_kept e = opening.kept_size s v e

  pub position_refused : (table : List ℕ) (r : Refusal) → refused (number_of r) ≡ opened s v → position_says (Err (Plain r)) ≡ position_answer_by s table v n
  unfolding position_says position_answer_by
  position_refused table r e = opening.refused_first (position_at (by_table table (store_of s)) (root_by table (store_of s) v) n) s v e

  pub position_is_read : (table : List ℕ) (r : Result declared.Grant ReadRefusal) → accepted tt ≡ opened s v → position_says r ≡ position_at (by_table table (store_of s)) (root_by table (store_of s) v) n →
      position_says r ≡ position_answer_by s table v n
  unfolding position_answer_by
  position_is_read table r e f = f ∙ sym (opening.rest_decides (position_at (by_table table (store_of s)) (root_by table (store_of s) v) n) s v e)

-- by a table without entries it is that of the scan
pub position_plain : (s : Bytes) (v n : ℕ) → position_answer_by s [] v n ≡ position_answer s none v n
unfolding position_answer_by position_answer
position_plain s v n = ap (λ look. by_header (header_of counted s) (read_position_by look (store_of s) v n)) (without_table (store_of s))

-- a table of another length is refused with 1; else its read is one by a table of any length
module _ (s : Bytes) (table : List ℕ) (v n : ℕ) where
  pub position_as_many : as_many s table ≡ true → position_answer_by s table v n ≡ position_answer s (some table) v n
  unfolding position_answer_by position_answer
  position_as_many e = as_many_lem (read_position_by (by_table table (store_of s)) (store_of s) v n) s table e

  pub position_not_as_many : as_many s table ≡ false → refused 1 ≡ position_answer s (some table) v n
  unfolding position_answer
  position_not_as_many e = not_as_many (read_position_by (by_table table (store_of s)) (store_of s) v n) s table e
