-- The raw keys and values that a message holds stand where its parts say. Assumes nothing.
use Prim.Native.Nat.{ℕ, ◌+◌, ◌≤◌}
use native.Mathlib.Omega.{arith}
use mathlib.Core.Path.{◌≡◌, refl, ap, sym, ◌∙◌}
use mathlib.Core.List.{[], ◌∷◌, ◌++◌, append_assoc, append-nil}
use mathlib.Core.Option.{Option, none, some}
use lib.ListN.{length, length-append}
use Rattle.terms.specs.Bits.{Bytes, All}
use Rattle.terms.specs.Fields.{slice}
use Rattle.terms.specs.Records.{Presence, Absence, Proof, presence, absence}
use Rattle.terms.proofs.Lists.{all_append}
use Rattle.terms.proofs.Fields.{slice_between}
use Rattle.messages.specs.Wire.{varint, bytes_tag, message_field, bytes_field}
use Rattle.messages.specs.Message.{existence, neighbour_field, nonexistence, message_bytes}
use Rattle.messages.specs.Raws.{leaf_op, path, RawPresence, RawNeighbour, RawProof}
use Rattle.messages.specs.Parts.{Raw, key_part, value_part, leaf_parts, asked_in, leaves_in, StandsIn}
use Rattle.messages.specs.Spots.{field_head}
use Rattle.messages.proofs.Wires.{bytes_field_is}
use Rattle.messages.proofs.Back.{existence_is, nonexistence_is}

field_split : (n : ℕ) (x r : Bytes) → message_field n x ++ r ≡ field_head n x ++ (x ++ r)
unfolding message_field field_head
field_split n x r = simp append_assoc

-- the bytes of a field after others
there : (xs : Bytes) (n : ℕ) (x r : Bytes) (at : ℕ) → length xs + length (field_head n x) ≡ at → slice at (length x) (xs ++ (message_field n x ++ r)) ≡ x
there xs n x r at e =
    ap (slice at (length x)) (ap (xs ++◌) (field_split n x r) ∙ sym (append_assoc xs (field_head n x) (x ++ r)))
    ∙ slice_between (xs ++ field_head n x) x r at (length x) (simp length-append e) refl

-- an existence proof in a field after others: its key and its value
module _ (m xs : Bytes) (n : ℕ) (p : Presence) (r : Bytes) (start : ℕ) (h : RawPresence p)
    (is : m ≡ xs ++ (message_field n (existence p) ++ r)) (so : length xs + length (field_head n (existence p)) ≡ start) where
  abbrev before : Bytes
  before = xs ++ field_head n (existence p)

  abbrev rest : Bytes
  rest = (message_field 3 leaf_op ++ path p.steps) ++ r

  begins : m ≡ before ++ (message_field 1 p.key ++ (message_field 2 p.value ++ rest))
  begins = is ∙ ap (xs ++◌) (field_split n (existence p) r ∙ ap (λ e. field_head n (existence p) ++ (e ++ r)) (existence_is p h)) ∙ simp append_assoc

  length_before : length before ≡ start
  length_before = length-append xs (field_head n (existence p)) ∙ so

  key_there : StandsIn m (key_part start p.key)
  unfolding field_head
  key_there =
      ap (slice (start + length (field_head 1 p.key)) (length p.key)) begins
      ∙ there before 1 p.key (message_field 2 p.value ++ rest) (start + length (field_head 1 p.key)) (omega (arith, length_before))

  value_there : StandsIn m (value_part (start + length (bytes_field 1 p.key)) p.value)
  unfolding field_head
  value_there =
      let k = bytes_field_is 1 p.key h.key_raw.some_byte in
      let at = start + length (bytes_field 1 p.key) + length (field_head 2 p.value) in
      ap (slice at (length p.value)) (begins ∙ sym (append_assoc before (message_field 1 p.key) (message_field 2 p.value ++ rest)))
      ∙ there (before ++ message_field 1 p.key) 2 p.value rest at
      (omega (arith, length_before, length-append before (message_field 1 p.key), ap length k))

-- a leaf shown in a field after others
leaf_there : (m xs : Bytes) (n : ℕ) (o : Option Presence) (r : Bytes) (start : ℕ) → m ≡ xs ++ (neighbour_field n o ++ r) → length xs ≡ start →
    RawNeighbour o → All (StandsIn m) (leaf_parts start n o)
unfolding field_head
leaf_there m xs n none r start is so h = tt
leaf_there m xs n (some p) r start is so h =
    let s = start + length (field_head n (existence p)) in
    let e : length xs + length (field_head n (existence p)) ≡ s = omega arith in
    (key_there m xs n p r s h is e, (value_there m xs n p r s h is e, tt))

-- In the message of a raw proof stand its raw keys and values, where its parts say.
pub raw_stands_there : (q : Proof) → RawProof q → All (StandsIn (message_bytes q)) (asked_in q ∷ leaves_in q)
unfolding field_head
raw_stands_there (presence p) h =
    let m = message_field 1 (existence p) in
    let is : m ≡ [] ++ (message_field 1 (existence p) ++ []) = sym (append-nil m) in
    let l = leaf_there m [] 1 (some p) [] 0 is refl h in
    (l.0, l)
raw_stands_there (absence a) h =
    let m = message_field 2 (nonexistence a) in
    let head = field_head 2 (nonexistence a) in
    let left = neighbour_field 2 a.leftward in
    let right = neighbour_field 3 a.rightward in
    let whole : m ≡ head ++ (nonexistence a ++ []) = sym (append-nil m) ∙ field_split 2 (nonexistence a) [] in
    let is : m ≡ head ++ (message_field 1 a.key ++ (left ++ (right ++ []))) =
    whole ∙ ap (head ++◌) (append-nil (nonexistence a) ∙ nonexistence_is a h.0) in
    let s = 0 + length head in
    let xs = head ++ message_field 1 a.key in
    let long : length xs ≡ s + length (bytes_field 1 a.key) =
    omega (arith, length-append head (message_field 1 a.key), ap length (bytes_field_is 1 a.key h.0.some_byte)) in
    let after : m ≡ xs ++ (left ++ (right ++ [])) = is ∙ sym (append_assoc head (message_field 1 a.key) (left ++ (right ++ []))) in
    let beyond : m ≡ (xs ++ left) ++ (right ++ []) = after ∙ sym (append_assoc xs left (right ++ [])) in (
      ap (slice (s + length (field_head 1 a.key)) (length a.key)) is
          ∙ there head 1 a.key (left ++ (right ++ [])) (s + length (field_head 1 a.key)) (omega arith),
      all_append (StandsIn m) (leaf_parts (s + length (bytes_field 1 a.key)) 2 a.leftward) (leaf_parts (s + length (bytes_field 1 a.key) + length left) 3 a.rightward)
          (leaf_there m xs 2 a.leftward (right ++ []) (s + length (bytes_field 1 a.key)) after long h.1)
          (leaf_there m (xs ++ left) 3 a.rightward [] (s + length (bytes_field 1 a.key) + length left) beyond (omega (arith, long, length-append xs left)) h.2),
    )
