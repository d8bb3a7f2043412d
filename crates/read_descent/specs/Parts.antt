-- What the functions of the descent answer one by one, within the code: no public promise reaches it. Assumes nothing.
use Rattle.std.specs.Prelude.{ℕ, ◌-◌, ◌≡◌, cond, List, length, eqb, Result, Ok, Err}
use Rattle.terms.specs.declared.Form.TheVariants.{Counted as counted}
use Rattle.terms.specs.Bits.{Bytes, Side, Place, longer, begins}
use Rattle.terms.specs.Records.{Grant, grant, Child}
use Rattle.meaning.specs.Calls.{Answer, refused, accepted}
use Rattle.meaning.specs.Counting.{at_body, descend}
use Rattle.indexed.specs.Index.{by_table}
use Rattle.hash.specs.Hash.{hash_bytes}
use Rattle.place.specs.declared.Place as declared-place
use Rattle.place.specs.Place.{place_of}
use Rattle.layout.specs.Slots.{key_in, value_inside, counts_in}
use Rattle.layout.specs.Stores.{slot_in, store_of}
use Rattle.read_step.specs.Walk.{body_in, SlotHolds}
use Rattle.refusal_numbers.specs.Refusals.{code, read_answer_of}
use Rattle.refusal_numbers.specs.declared.ReadRefusal.{ReadRefusal}
use Rattle.read_descent.specs.declared.Grant as declared

-- What each case of the answer says.
unfoldable pub position_says : Result declared.Grant ReadRefusal → Answer Grant
position_says = read_answer_of (λ g. grant (hash_bytes g.key) (hash_bytes g.value))

-- What a leaf's bytes say of a position at a place.
abbrev pub leaf_answer : Place → Bytes → ℕ → Answer Grant
leaf_answer p x n =
    cond (begins p (key_in x)) (cond (eqb n 0) (accepted (grant (key_in x) (value_inside x))) (refused 3)) (refused 3)

-- What is found from an inner record's place on, at its child on a side.
abbrev pub kids_from : Bytes → List ℕ → Place → Side → Child → ℕ → Answer Grant
kids_from s table p b d j = descend (255 - length p) (by_table table (store_of s)) (longer b p) d j

-- What is found from the record in slot i on, which stands at a place.
unfoldable pub body_at : Bytes → List ℕ → Place → ℕ → ℕ → Answer Grant
body_at s table p i n =
    at_body p (body_in (slot_in counted i s)) (counts_in (slot_in counted i s)) n (kids_from s table p)

-- What is found from a child on, which stands at a place.
unfoldable pub child_answer : Bytes → List ℕ → Place → Child → ℕ → Answer Grant
child_answer s table p c n = descend (256 - length p) (by_table table (store_of s)) p c n

-- A child is refused, or is the record in this slot.
abbrev pub Steps : Bytes → List ℕ → declared-place.Place → Child → Result ℕ ReadRefusal → Type 0
Steps s table p c (Err m) = (n : ℕ) → refused (code m) ≡ child_answer s table (place_of p) c n
Steps s table p c (Ok j) =
    SlotHolds s j p × ((n : ℕ) → body_at s table (place_of p) j n ≡ child_answer s table (place_of p) c n)
