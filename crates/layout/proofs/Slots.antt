-- Slots there and back, in both forms: the bytes of a record in form are read as that record, the bytes of every slot are the bytes of the slot that they are read
-- as, and what is read is in form. The fields fill the slot, and each is its number or its part. Assumes nothing.
use Prim.Native.Nat.{ℕ, zero, suc, ◌+◌, ◌-◌, ◌<◌, ◌≤◌}
use native.Mathlib.Omega.{arith}
use mathlib.Core.Path.{◌≡◌, refl, ap, ap₂, sym, ◌∙◌, subst}
use mathlib.Core.Bool.{Bool, true, false, cond, ◌||◌, false≢true}
use mathlib.Core.List.{List, [], ◌∷◌, ◌++◌}
use lib.ListN.{length, get_or, take, drop, length-take, drop_of_length-le}
use lib.Dec.{leb}
use borrow.Author.Tests.{eqb-true, eq-eqb, ne_eqb, leb-true, leb-false, le-leb, lt-leb}
use Rattle.terms.specs.declared.Form.{Form}
use Rattle.terms.specs.declared.Form.TheVariants.{Plain as plain, Counted as counted}
use Rattle.terms.specs.Bits.{Bytes, Byte, Place, All, Whole32, bits, pack, none_set}
use Rattle.terms.specs.Fields.{le, num, field, slice, zero_bytes, all_zero, flat}
use Rattle.terms.specs.Records.{Child, child, Body, leaf_body, inner_body, Tally, tally, no_tally, Record, Slot, free, used, spoiled, zeros}
use Rattle.terms.specs.Form.{top32, place_limit, ChildForm, BodyForm, CountsForm, RecordForm, FormedAs}
use Rattle.terms.proofs.Places.{length_bits, length_pack, pack_place, place_packed, unused_packed}
use Rattle.terms.proofs.Fields.{slice_slice, field_slice, num_le, length_le, le_field, field_below, length_slice, all_slice, zero_bytes_lem, all_zero_lem, cuts, total, flat_cuts, flat_front, all_of_tests, test_failed, tests_all, Sized, cuts_flat, length_flat, length_zero_bytes, flat_append}
use Rattle.fields.specs.Written.{written}
use Rattle.fields.proofs.Written.{written_between}
use Rattle.layout.specs.Sizes.{slot_size}
use Rattle.layout.specs.Slots.{length_of, kind_of, count_in, place_in, leaf_in, child_in, inner_in, counts_in, record_of, record_in, head_right, is_leaf, child_right, some_child, is_inner, slot_of, head_fields, body_fields, count_fields, record_fields, record_bytes, slot_bytes, SlotForm}
use Rattle.layout.proofs.Headers.{size_small}

-- a record's fields have these sizes
abbrev body_sizes : Body → List ℕ
body_sizes (leaf_body k x) = 32 ∷ 32 ∷ 8 ∷ []
body_sizes (inner_body l r) = 4 ∷ 32 ∷ 4 ∷ 32 ∷ []

abbrev count_sizes : Form → List ℕ
count_sizes plain = []
count_sizes counted = 4 ∷ 4 ∷ []

abbrev sizes : Form → Body → List ℕ
sizes fm b = 4 ∷ 2 ∷ 2 ∷ 32 ∷ 4 ∷ 4 ∷ (body_sizes b ++ count_sizes fm)

counts_sized : (fm : Form) (c : Tally) → Sized (count_sizes fm) (count_fields fm c)
counts_sized plain c = tt
counts_sized counted c = (length_le 4 _, (length_le 4 _, tt))

body_sized : (fm : Form) (b : Body) (c : Tally) → BodyForm b → Sized (body_sizes b ++ count_sizes fm) (body_fields b ++ count_fields fm c)
body_sized fm (leaf_body k x) c h = (h.0.0, (h.1.0, (length_zero_bytes 8, counts_sized fm c)))
body_sized fm (inner_body l r) c h = (length_le 4 _, (h.0.hash32.0, (length_le 4 _, (h.1.hash32.0, counts_sized fm c))))

sized : (fm : Form) (r : Record) → RecordForm r → Sized (sizes fm r.body) (record_fields fm r)
sized fm r h =
    (length_le 4 _, (length_le 2 _, (length_le 2 _, (length_pack 32 _, (length_le 4 _, (length_le 4 _, body_sized fm r.body r.counts h.body))))))

body_total : (fm : Form) (b : Body) → total (sizes fm b) ≡ slot_size fm
body_total plain (leaf_body k x) = refl
body_total plain (inner_body l r) = refl
body_total counted (leaf_body k x) = refl
body_total counted (inner_body l r) = refl

pub length_record : (fm : Form) (r : Record) → RecordForm r → length (record_bytes fm r) ≡ slot_size fm
unfolding record_bytes
length_record fm r h = length_flat (sizes fm r.body) (record_fields fm r) (sized fm r h) ∙ body_total fm r.body

-- field number k of the bytes of a record
cut : (fm : Form) (r : Record) → RecordForm r → (k : ℕ) → get_or (cuts (sizes fm r.body) 0 (record_bytes fm r)) k [] ≡ get_or (record_fields fm r) k []
unfolding record_bytes
cut fm r h k = ap (λ l. get_or l k []) (cuts_flat (sizes fm r.body) (record_fields fm r) (sized fm r h))

limit_small : (b : Body) → place_limit b ≤ 256
limit_small (leaf_body k x) = omega arith
limit_small (inner_body l r) = omega arith

length_small : (fm : Form) (b : Body) → length_of (slot_size fm) b < 4294967296
length_small fm (leaf_body k x) = omega arith
length_small fm (inner_body l r) = omega (arith, size_small fm)

kind_small : (fm : Form) (b : Body) → kind_of (slot_size fm) b < 65536
kind_small fm (leaf_body k x) = omega arith
kind_small plain (inner_body l r) = omega arith
kind_small counted (inner_body l r) = omega arith

-- past the end of the bytes there are no counts
short_field : (i n : ℕ) (x : Bytes) → length x ≤ i → field i n x ≡ 0
unfolding field slice
short_field i zero x h = refl
short_field i (suc n) x h = ap (λ y. num (take (suc n) y)) (drop_of_length-le x {i = i} h)

pub plain_counts : (x : Bytes) → length x ≡ 120 → counts_in x ≡ no_tally
unfolding counts_in
plain_counts x l = ap₂ tally (short_field 120 4 x (omega arith)) (short_field 124 4 x (omega arith))

no_counts : (c : Tally) → c ≡ no_tally → (c.leftward ≤ top32) × (c.rightward ≤ top32)
no_counts c e = rw e (omega arith, omega arith)

counts_small : (r : Record) → RecordForm r → (r.counts.leftward ≤ top32) × (r.counts.rightward ≤ top32)
counts_small r h = go r.body h.counts
  where
    go : (b : Body) → CountsForm b r.counts → (r.counts.leftward ≤ top32) × (r.counts.rightward ≤ top32)
    go (leaf_body k x) e = no_counts r.counts e
    go (inner_body a b) e = e

-- the counts are there in the counted form, and in the plain one there are none
counted_say : (p : Place) (v n : ℕ) (b : Body) (c : Tally) → RecordForm (record_of p v n b c) → counts_in (record_bytes counted (record_of p v n b c)) ≡ c
unfolding counts_in field
counted_say p v n (leaf_body k x) c h =
    let t = counts_small (record_of p v n (leaf_body k x) c) h in
    ap₂ tally (ap num (cut counted (record_of p v n (leaf_body k x) c) h 9) ∙ num_le 4 c.leftward (omega arith))
    (ap num (cut counted (record_of p v n (leaf_body k x) c) h 10) ∙ num_le 4 c.rightward (omega arith))
counted_say p v n (inner_body l r) c h =
    let t = counts_small (record_of p v n (inner_body l r) c) h in
    ap₂ tally (ap num (cut counted (record_of p v n (inner_body l r) c) h 10) ∙ num_le 4 c.leftward (omega arith))
    (ap num (cut counted (record_of p v n (inner_body l r) c) h 11) ∙ num_le 4 c.rightward (omega arith))

counts_say_lem : (fm : Form) (r : Record) → RecordForm r → FormedAs fm r → counts_in (record_bytes fm r) ≡ r.counts
counts_say_lem plain r h a = plain_counts (record_bytes plain r) (length_record plain r h) ∙ sym a
counts_say_lem counted r h a = counted_say r.place r.version r.retired r.body r.counts h

-- the head of a record's bytes says what the record says
module _ (fm : Form) (r : Record) (h : RecordForm r) where
  length_says : field 0 4 (record_bytes fm r) ≡ length_of (slot_size fm) r.body
  unfolding field
  length_says = ap num (cut fm r h 0) ∙ num_le 4 _ (length_small fm r.body)

  kind_says_lem : field 4 2 (record_bytes fm r) ≡ kind_of (slot_size fm) r.body
  unfolding field
  kind_says_lem = ap num (cut fm r h 1) ∙ num_le 2 _ (kind_small fm r.body)

  pub count_says : count_in (record_bytes fm r) ≡ length r.place
  unfolding count_in field
  count_says = ap num (cut fm r h 2) ∙ num_le 2 _ (omega (arith, h.short, limit_small r.body))

  pub version_says : field 40 4 (record_bytes fm r) ≡ r.version
  unfolding field
  version_says = ap num (cut fm r h 4) ∙ num_le 4 _ (omega (arith, h.versioned.1))

  pub retired_says : field 44 4 (record_bytes fm r) ≡ r.retired
  unfolding field
  retired_says = ap num (cut fm r h 5) ∙ num_le 4 _ (omega (arith, h.number))

  pub bits_say : slice 8 32 (record_bytes fm r) ≡ pack 32 r.place
  bits_say = cut fm r h 3

  place_says : place_in (record_bytes fm r) ≡ r.place
  unfolding place_in
  place_says = rw (count_says, cut fm r h 3) (place_packed 32 r.place (omega (arith, h.short, limit_small r.body)))

  record_says_lem : FormedAs fm r → record_in (record_bytes fm r) r.body ≡ r
  unfolding record_in
  record_says_lem a = rw (place_says, version_says, retired_says, counts_say_lem fm r h a)

  head_says : head_right r.body (record_bytes fm r) ≡ true
  unfolding head_right
  head_says =
      tests_all _ (
        eq-eqb _ _ (length_says ∙ ap (λ n. length_of n r.body) (sym (length_record fm r h))),
        (
          eq-eqb _ _ (kind_says_lem ∙ ap (λ n. kind_of n r.body) (sym (length_record fm r h))),
          (
            le-leb (count_in (record_bytes fm r)) (place_limit r.body) (rw count_says h.short),
            (
              rw (count_says, cut fm r h 3) (unused_packed 32 r.place),
              (
                le-leb 1 (field 40 4 (record_bytes fm r)) (rw version_says h.versioned.0),
                tt,
              ),
            ),
          ),
        ),
      )

sixteen_zero : all_zero (zero_bytes 8 ++ (le 4 0 ++ (le 4 0 ++ []))) ≡ true
unfolding zero_bytes le
sixteen_zero = refl

child_right_lem : (c : Child) → ChildForm c → child_right c ≡ true
unfolding child_right zeros zero_bytes
child_right_lem c h = go (leb 1 c.version) refl
  where
    go : (t : Bool) → leb 1 c.version ≡ t → t || all_zero c.hash ≡ true
    go true e = refl
    go false e = rw (h.missing (omega (arith, leb-false 1 c.version e))) (all_zero_lem 32)

some_child_lem : (l r : Child) → (l.version ≡ 0 → r.version ≡ 0 → ⊥) → some_child l r ≡ true
unfolding some_child
some_child_lem l r f = go (leb 1 l.version) (leb 1 r.version) refl refl
  where
    go : (s t : Bool) → leb 1 l.version ≡ s → leb 1 r.version ≡ t → s || t ≡ true
    go true t d e = refl
    go false true d e = refl
    go false false d e = absurd (f (omega (arith, leb-false 1 l.version d)) (omega (arith, leb-false 1 r.version e)))

not_free : (fm : Form) (r : Record) → all_zero (record_bytes fm r) ≡ false
unfolding record_bytes le
not_free fm r = go fm r.body
  where
    go : (f : Form) (b : Body) →
        all_zero (flat (head_fields (length_of (slot_size f) b) (kind_of (slot_size f) b) r.place r.version r.retired ++ (body_fields b ++ count_fields f r.counts))) ≡ false
    go plain (leaf_body k x) = refl
    go plain (inner_body a b) = refl
    go counted (leaf_body k x) = refl
    go counted (inner_body a b) = refl

-- a leaf in form is read as it was written
module _ (p : Place) (v n : ℕ) (k x : Bytes) (c : Tally) (h : RecordForm (record_of p v n (leaf_body k x) c)) where
  tail_zero : (fm : Form) → all_zero (slice 112 (slot_size fm - 112) (record_bytes fm (record_of p v n (leaf_body k x) c))) ≡ true
  unfolding slice
  tail_zero plain = ap all_zero (cut plain (record_of p v n (leaf_body k x) c) h 8) ∙ all_zero_lem 8
  tail_zero counted =
      let b = record_bytes counted (record_of p v n (leaf_body k x) c) in
      let e = cut counted (record_of p v n (leaf_body k x) c) h in
      let z : slice 112 8 b ++ (slice 120 4 b ++ (slice 124 4 b ++ [])) ≡ zero_bytes 8 ++ (le 4 0 ++ (le 4 0 ++ [])) =
      ap₂ ◌++◌ (e 8) (ap₂ (λ l r. l ++ (r ++ [])) (e 9 ∙ ap (λ y. le 4 y.leftward) h.counts) (e 10 ∙ ap (λ y. le 4 y.rightward) h.counts))
      in
      ap all_zero (sym (flat_front (8 ∷ 4 ∷ 4 ∷ []) 112 b) ∙ z) ∙ sixteen_zero

  module _ (fm : Form) where
    leaf_body_lem : leaf_in (record_bytes fm (record_of p v n (leaf_body k x) c)) ≡ leaf_body k x
    unfolding leaf_in
    leaf_body_lem = ap₂ leaf_body (cut fm (record_of p v n (leaf_body k x) c) h 6) (cut fm (record_of p v n (leaf_body k x) c) h 7)

    is_leaf_lem : is_leaf (record_bytes fm (record_of p v n (leaf_body k x) c)) ≡ true
    unfolding is_leaf
    is_leaf_lem =
        tests_all _ (
          rw leaf_body_lem (head_says fm (record_of p v n (leaf_body k x) c) h),
          (rw (length_record fm (record_of p v n (leaf_body k x) c) h) (tail_zero fm), tt),
        )

    leaf_said : FormedAs fm (record_of p v n (leaf_body k x) c) → slot_of (record_bytes fm (record_of p v n (leaf_body k x) c)) ≡ used (record_of p v n (leaf_body k x) c)
    unfolding slot_of
    leaf_said a = rw (not_free fm (record_of p v n (leaf_body k x) c), is_leaf_lem, leaf_body_lem, record_says_lem fm (record_of p v n (leaf_body k x) c) h a)

-- and so is an inner record
module _ (fm : Form) (p : Place) (v n : ℕ) (l r : Child) (c : Tally) (h : RecordForm (record_of p v n (inner_body l r) c)) where
  pub left_child : child_in 48 (record_bytes fm (record_of p v n (inner_body l r) c)) ≡ l
  unfolding child_in field
  left_child = ap₂ child (ap num (cut fm (record_of p v n (inner_body l r) c) h 6) ∙ num_le 4 l.version (omega (arith, h.body.0.number))) (cut fm (record_of p v n (inner_body l r) c) h 7)

  pub right_child : child_in 84 (record_bytes fm (record_of p v n (inner_body l r) c)) ≡ r
  unfolding child_in field
  right_child = ap₂ child (ap num (cut fm (record_of p v n (inner_body l r) c) h 8) ∙ num_le 4 r.version (omega (arith, h.body.1.number))) (cut fm (record_of p v n (inner_body l r) c) h 9)

  inner_body_lem : inner_in (record_bytes fm (record_of p v n (inner_body l r) c)) ≡ inner_body l r
  unfolding inner_in
  inner_body_lem = ap₂ inner_body left_child right_child

  is_no_leaf : is_leaf (record_bytes fm (record_of p v n (inner_body l r) c)) ≡ false
  unfolding is_leaf head_right leaf_in
  is_no_leaf =
      test_failed _ (test_failed _ (ne_eqb (field 0 4 (record_bytes fm (record_of p v n (inner_body l r) c))) 112
      (λ e. omega (arith, length_says fm (record_of p v n (inner_body l r) c) h, size_small fm))))

  is_inner_lem : is_inner (record_bytes fm (record_of p v n (inner_body l r) c)) ≡ true
  unfolding is_inner
  is_inner_lem =
      tests_all _ (
        rw inner_body_lem (head_says fm (record_of p v n (inner_body l r) c) h),
        (
          ap child_right left_child ∙ child_right_lem l h.body.0,
          (
            ap child_right right_child ∙ child_right_lem r h.body.1,
            (ap₂ some_child left_child right_child ∙ some_child_lem l r h.body.2, tt),
          ),
        ),
      )

  inner_said : FormedAs fm (record_of p v n (inner_body l r) c) → slot_of (record_bytes fm (record_of p v n (inner_body l r) c)) ≡ used (record_of p v n (inner_body l r) c)
  unfolding slot_of
  inner_said a = rw (not_free fm (record_of p v n (inner_body l r) c), is_no_leaf, is_inner_lem, inner_body_lem, record_says_lem fm (record_of p v n (inner_body l r) c) h a)

-- a record in form is read as it was written
pub record_said : (fm : Form) (r : Record) → RecordForm r → FormedAs fm r → slot_of (record_bytes fm r) ≡ used r
record_said fm r = go r.place r.version r.retired r.body r.counts
  where
    go : (p : Place) (v n : ℕ) (b : Body) (c : Tally) → RecordForm (record_of p v n b c) → FormedAs fm (record_of p v n b c) →
        slot_of (record_bytes fm (record_of p v n b c)) ≡ used (record_of p v n b c)
    go p v n (leaf_body k x) c h a = leaf_said p v n k x c h fm a
    go p v n (inner_body l r) c h a = inner_said fm p v n l r c h a

free_said : (fm : Form) → slot_of (zero_bytes (slot_size fm)) ≡ free
unfolding slot_of
free_said fm = rw (all_zero_lem (slot_size fm))

-- and so is every slot that the bytes of its form can be
pub slot_said : (fm : Form) (x : Slot) → SlotForm fm x → slot_of (slot_bytes fm x) ≡ x
unfolding slot_bytes
slot_said fm free h = free_said fm
slot_said fm (used r) h = record_said fm r h.0 h.1
slot_said fm (spoiled x) h = h.2

-- another retired-since: four bytes change
pub retired_put : (fm : Form) (r : Record) (n : ℕ) → record_bytes fm (record_of r.place r.version n r.body r.counts) ≡ written 44 (le 4 n) (record_bytes fm r)
unfolding record_bytes
retired_put fm r n =
    let b = r.body in
    let rest = body_fields b ++ count_fields fm r.counts in
    let fs = le 4 (length_of (slot_size fm) b) ∷ le 2 (kind_of (slot_size fm) b) ∷ le 2 (length r.place) ∷ pack 32 r.place ∷ le 4 r.version ∷ [] in
    let long : length (flat fs) ≡ 44 =
    length_flat (4 ∷ 2 ∷ 2 ∷ 32 ∷ 4 ∷ []) fs (length_le 4 _, (length_le 2 _, (length_le 2 _, (length_pack 32 _, (length_le 4 _, tt)))))
    in
    flat_append fs (le 4 n ∷ rest)
    ∙ sym (written_between (flat fs) (le 4 r.retired) (flat rest) (le 4 n) 44 long (length_le 4 n ∙ sym (length_le 4 r.retired)))
    ∙ ap (written 44 (le 4 n)) (sym (flat_append fs (le 4 r.retired ∷ rest)))

pub length_slot : (fm : Form) (x : Slot) → SlotForm fm x → length (slot_bytes fm x) ≡ slot_size fm
unfolding slot_bytes
length_slot fm free h = length_zero_bytes (slot_size fm)
length_slot fm (used r) h = length_record fm r h.0
length_slot fm (spoiled x) h = h.0

four : (i : ℕ) (x : Bytes) → i + 4 ≤ length x → All Byte x → field i 4 x ≤ top32
four i x l h = omega (arith, field_below i 4 x l h)

part32 : (i : ℕ) (x : Bytes) → i + 32 ≤ length x → All Byte x → Whole32 (slice i 32 x)
part32 i x l h = (length_slice i 32 x l, all_slice i 32 x h)

one_child : (l r : Child) → some_child l r ≡ true → l.version ≡ 0 → r.version ≡ 0 → ⊥
unfolding some_child
one_child l r t e f = false≢true (sym (rw (lt-leb 1 l.version (omega arith), lt-leb 1 r.version (omega arith))) ∙ t)

-- what bytes are: all that is opened of `slot_of`
pub data SlotCases (x : Bytes) : Type 0 where
  are_free : all_zero x ≡ true → slot_of x ≡ free → SlotCases x
  are_leaf : all_zero x ≡ false → is_leaf x ≡ true → slot_of x ≡ used (record_in x (leaf_in x)) → SlotCases x
  are_inner : all_zero x ≡ false → is_leaf x ≡ false → is_inner x ≡ true → slot_of x ≡ used (record_in x (inner_in x)) → SlotCases x
  are_spoiled : all_zero x ≡ false → is_leaf x ≡ false → is_inner x ≡ false → slot_of x ≡ spoiled x → SlotCases x

pub slot_cases : (x : Bytes) → SlotCases x
unfolding slot_of
slot_cases x = go (all_zero x) (is_leaf x) (is_inner x) refl refl refl
  where
    go : (a b c : Bool) → all_zero x ≡ a → is_leaf x ≡ b → is_inner x ≡ c → SlotCases x
    go true b c z l i = are_free z (rw z)
    go false true c z l i = are_leaf z l (rw (z, l))
    go false false true z l i = are_inner z l i (rw (z, l, i))
    go false false false z l i = are_spoiled z l i (rw (z, l, i))

-- the cases of a slot exclude each other, and a slot holds one record
abbrev case : Slot → ℕ
case free = 0
case (used r) = 1
case (spoiled x) = 2

one_record : (q r : Record) → used q ≡ used r → q ≡ r
one_record q r e = cc

-- the counts that bytes hold
counts_back : (fm : Form) (x : Bytes) → length x ≡ slot_size fm → All Byte x → count_fields fm (counts_in x) ≡ cuts (count_sizes fm) 120 x
unfolding counts_in
counts_back plain x l h = refl
counts_back counted x l h = ap₂ (λ y z. y ∷ z ∷ []) (le_field 120 4 x (omega arith) h) (le_field 124 4 x (omega arith) h)

inner_counts : (fm : Form) (x : Bytes) → length x ≡ slot_size fm → All Byte x → ((counts_in x).leftward ≤ top32) × ((counts_in x).rightward ≤ top32)
unfolding counts_in
inner_counts plain x l h = no_counts (counts_in x) (plain_counts x l)
inner_counts counted x l h = (four 120 x (omega arith) h, four 124 x (omega arith) h)

formed_as : (fm : Form) (x : Bytes) → length x ≡ slot_size fm → (b : Body) → FormedAs fm (record_in x b)
unfolding record_in
formed_as plain x l b = plain_counts x l
formed_as counted x l b = tt

-- the end of a leaf
abbrev TailZero : Form → Bytes → Type 0
TailZero fm x = slice 112 (slot_size fm - 112) x ≡ zero_bytes (slot_size fm - 112)

leaf_tail : (fm : Form) (x : Bytes) → length x ≡ slot_size fm → all_zero (slice 112 (length x - 112) x) ≡ true → TailZero fm x
leaf_tail fm x l e =
    zero_bytes_lem (slice 112 (slot_size fm - 112) x) (ap (λ n. all_zero (slice 112 (n - 112) x)) (sym l) ∙ e)
    ∙ ap zero_bytes (length_slice 112 (slot_size fm - 112) x (omega (arith, size_small fm)))

eight_zero : (fm : Form) (x : Bytes) → TailZero fm x → slice 112 8 x ≡ zero_bytes 8
unfolding slice zero_bytes
eight_zero plain x e = e
eight_zero counted x e = sym (slice_slice 112 16 0 8 x (omega arith)) ∙ ap (slice 0 8) e

leaf_counts : (fm : Form) (x : Bytes) → length x ≡ slot_size fm → TailZero fm x → counts_in x ≡ no_tally
unfolding counts_in field slice zero_bytes
leaf_counts plain x l e = plain_counts x l
leaf_counts counted x l e =
    ap₂ tally (sym (field_slice 112 16 8 4 x (omega arith)) ∙ ap (field 8 4) e) (sym (field_slice 112 16 12 4 x (omega arith)) ∙ ap (field 12 4) e)

-- the bytes of a slot
module _ (fm : Form) (x : Bytes) (l : length x ≡ slot_size fm) (h : All Byte x) where
  long : 120 ≤ length x
  long = omega (arith, size_small fm)

  length_place : count_in x ≤ 256 → length (place_in x) ≡ count_in x
  unfolding place_in
  length_place c = simp (length-take, length_bits, length_slice 8 32 x (omega (arith, long))) (omega arith)

  bits_back : none_set (drop (count_in x) (bits (slice 8 32 x))) ≡ true → pack 32 (place_in x) ≡ slice 8 32 x
  unfolding place_in
  bits_back e = rw (length_slice 8 32 x (omega (arith, long))) at (pack_place (count_in x) (slice 8 32 x) (all_slice 8 32 x h) e)

  count_back : le 2 (count_in x) ≡ slice 6 2 x
  unfolding count_in
  count_back = le_field 6 2 x (omega (arith, long)) h

  -- a record whose head is right is its own bytes, but for the body
  head_back : (b : Body) → head_right b x ≡ true →
      record_bytes fm (record_in x b)
      ≡ flat (slice 0 4 x ∷ slice 4 2 x ∷ slice 6 2 x ∷ slice 8 32 x ∷ slice 40 4 x ∷ slice 44 4 x ∷ (body_fields b ++ count_fields fm (counts_in x)))
  unfolding head_right record_in record_bytes
  head_back b e =
      let t = all_of_tests _ e in
      let n = eqb-true (field 0 4 x) (length_of (length x) b) t.0 ∙ ap (λ m. length_of m b) l in
      let k = eqb-true (field 4 2 x) (kind_of (length x) b) t.1.0 ∙ ap (λ m. kind_of m b) l in
      let c = leb-true (count_in x) (place_limit b) t.1.1.0 in
      let p = length_place (omega (arith, limit_small b)) in
      rw (← n, ← k, p, bits_back t.1.1.1.0, le_field 0 4 x (omega (arith, long)) h, le_field 4 2 x (omega (arith, long)) h, count_back, le_field 40 4 x (omega (arith, long)) h, le_field 44 4 x (omega (arith, long)) h)

  head_form : (b : Body) → head_right b x ≡ true → BodyForm b → CountsForm b (counts_in x) → RecordForm (record_in x b)
  unfolding head_right record_in
  head_form b e f g =
      let t = all_of_tests _ e in
      let c = leb-true (count_in x) (place_limit b) t.1.1.0 in
      record {
        short = omega (arith, limit_small b, length_place (omega (arith, limit_small b)));
        versioned = (leb-true 1 (field 40 4 x) t.1.1.1.1.0, four 40 x (omega (arith, long)) h);
        number = four 44 x (omega (arith, long)) h;
        body = f;
        counts = g;
      }

  leaf_back : is_leaf x ≡ true → record_bytes fm (record_in x (leaf_in x)) ≡ x
  unfolding is_leaf leaf_in
  leaf_back e =
      let t = all_of_tests _ e in
      let z : slice 112 8 x ≡ zero_bytes 8 = eight_zero fm x (leaf_tail fm x l t.1.0) in
      head_back (leaf_in x) t.0 ∙ rw (← z, counts_back fm x l h) (flat_cuts (sizes fm (leaf_in x)) 0 x (omega (arith, body_total fm (leaf_in x))))

  leaf_form : is_leaf x ≡ true → RecordForm (record_in x (leaf_in x))
  unfolding is_leaf leaf_in
  leaf_form e =
      let t = all_of_tests _ e in
      head_form (leaf_in x) t.0 (part32 48 x (omega (arith, long)) h, part32 80 x (omega (arith, long)) h) (leaf_counts fm x l (leaf_tail fm x l t.1.0))

  child_form : (i : ℕ) → i + 36 ≤ 120 → child_right (child_in i x) ≡ true → ChildForm (child_in i x)
  unfolding child_right child_in zeros zero_bytes
  child_form i k e =
      record {
        number = four i x (omega (arith, long)) h;
        hash32 = part32 (i + 4) x (omega (arith, long)) h;
        missing = λ z. go (leb 1 (field i 4 x)) refl e z;
      }
    where
      go : (t : Bool) → leb 1 (field i 4 x) ≡ t → t || all_zero (slice (i + 4) 32 x) ≡ true → field i 4 x ≡ 0 → slice (i + 4) 32 x ≡ zeros
      go true d f z = absurd (omega (arith, leb-true 1 (field i 4 x) d))
      go false d f z = zero_bytes_lem (slice (i + 4) 32 x) f ∙ ap zero_bytes (length_slice (i + 4) 32 x (omega (arith, long)))

  inner_back : is_inner x ≡ true → record_bytes fm (record_in x (inner_in x)) ≡ x
  unfolding is_inner inner_in child_in
  inner_back e =
      let t = all_of_tests _ e in
      head_back (inner_in x) t.0 ∙ rw (le_field 48 4 x (omega (arith, long)) h, le_field 84 4 x (omega (arith, long)) h, counts_back fm x l h)
      (flat_cuts (sizes fm (inner_in x)) 0 x (omega (arith, body_total fm (inner_in x))))

  inner_form : is_inner x ≡ true → RecordForm (record_in x (inner_in x))
  unfolding is_inner inner_in
  inner_form e =
      let t = all_of_tests _ e in
      head_form (inner_in x) t.0 (
        child_form 48 (omega (arith, long)) t.1.0,
        child_form 84 (omega (arith, long)) t.1.1.0,
        one_child (child_in 48 x) (child_in 84 x) t.1.1.1.0,
      ) (inner_counts fm x l h)

  -- the bytes are those of the slot that they are read as
  pub slot_back : slot_bytes fm (slot_of x) ≡ x
  unfolding slot_bytes
  slot_back = go (slot_cases x)
    where
      go : SlotCases x → slot_bytes fm (slot_of x) ≡ x
      go (are_free z e) = ap (slot_bytes fm) e ∙ ap zero_bytes (sym l) ∙ sym (zero_bytes_lem x z)
      go (are_leaf z t e) = ap (slot_bytes fm) e ∙ leaf_back t
      go (are_inner z n t e) = ap (slot_bytes fm) e ∙ inner_back t
      go (are_spoiled z n m e) = ap (slot_bytes fm) e

  -- and that slot is in form
  pub slot_form : SlotForm fm (slot_of x)
  slot_form = go (slot_cases x)
    where
      go : SlotCases x → SlotForm fm (slot_of x)
      go (are_free z e) = subst (SlotForm fm) (sym e) tt
      go (are_leaf z t e) = subst (SlotForm fm) (sym e) (leaf_form t, formed_as fm x l (leaf_in x))
      go (are_inner z n t e) = subst (SlotForm fm) (sym e) (inner_form t, formed_as fm x l (inner_in x))
      go (are_spoiled z n m e) = subst (SlotForm fm) (sym e) (l, h, e)

-- bytes that are a record are a leaf's where they pass for one, else an inner record's
pub record_is : (x : Bytes) (r : Record) → slot_of x ≡ used r → record_in x (cond (is_leaf x) (leaf_in x) (inner_in x)) ≡ r
record_is x r e = go (slot_cases x)
  where
    go : SlotCases x → record_in x (cond (is_leaf x) (leaf_in x) (inner_in x)) ≡ r
    go (are_free z f) = absurd (omega (arith, ap case (sym f ∙ e)))
    go (are_leaf z t f) = rw t (one_record (record_in x (leaf_in x)) r (sym f ∙ e))
    go (are_inner z n t f) = rw n (one_record (record_in x (inner_in x)) r (sym f ∙ e))
    go (are_spoiled z n m f) = absurd (omega (arith, ap case (sym f ∙ e)))

-- free is exactly all zero
pub zero_free : (x : Bytes) → all_zero x ≡ true → slot_of x ≡ free
unfolding slot_of
zero_free x e = rw e

pub free_zero : (x : Bytes) → slot_of x ≡ free → all_zero x ≡ true
free_zero x e = go (slot_cases x)
  where
    go : SlotCases x → all_zero x ≡ true
    go (are_free z f) = z
    go (are_leaf z t f) = absurd (omega (arith, ap case (sym e ∙ f)))
    go (are_inner z n t f) = absurd (omega (arith, ap case (sym e ∙ f)))
    go (are_spoiled z n m f) = absurd (omega (arith, ap case (sym e ∙ f)))
