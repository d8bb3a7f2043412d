-- A slot that was read says what its bytes are: by the tests of its bytes, case by case. Assumes nothing.
use Prim.Native.Nat.{◌≤◌}
use native.Mathlib.Omega.{arith}
use mathlib.Core.Path.{◌≡◌, ap, ap₂, ◌∙◌}
use mathlib.Core.Bool.{true, false}
use lib.ListN.{drop}
use borrow.Author.Tests.{leb-true}
use Rattle.terms.specs.Bits.{Bytes, bits, none_set}
use Rattle.terms.specs.Fields.{slice, all_zero}
use Rattle.terms.specs.Records.{Body, inner_body, used}
use Rattle.terms.specs.Form.{place_limit}
use Rattle.terms.proofs.Fields.{all_of_tests}
use Rattle.layout.specs.Slots.{count_in, leaf_in, child_in, inner_in, record_in, head_right, is_leaf, is_inner, slot_of}
use Rattle.slots.specs.declared.Child as declared-child
use Rattle.slots.specs.declared.Kind.TheVariants.{Free, Leaf, Inner, Spoiled}
use Rattle.slots.specs.declared.Slot as declared
use Rattle.slots.specs.Answer.{child_says, kind_says, slot_says, Made, Held, Read}

-- the bit count of a record in form, and its unused bits
abbrev HeadSays : Bytes → Type 0
HeadSays x = (count_in x ≤ 256) × (none_set (drop (count_in x) (bits (slice 8 32 x))) ≡ true)

head_says : (b : Body) (x : Bytes) → place_limit b ≤ 256 → head_right b x ≡ true → HeadSays x
unfolding head_right
head_says b x l e =
    let t = all_of_tests _ e in
    let c = leb-true (count_in x) (place_limit b) t.1.1.0 in
    (omega arith, t.1.1.1.0)

pub leaf_head : (x : Bytes) → is_leaf x ≡ true → HeadSays x
unfolding is_leaf leaf_in
leaf_head x e = head_says (leaf_in x) x (omega arith) (all_of_tests _ e).0

pub inner_head_lem : (x : Bytes) → is_inner x ≡ true → HeadSays x
unfolding is_inner inner_in
inner_head_lem x e = head_says (inner_in x) x (omega arith) (all_of_tests _ e).0

module _ {x : Bytes} {r : declared.Slot} where
  pub read_free : Made Free r → all_zero x ≡ true → Read x r
  unfolding slot_says kind_says slot_of
  read_free m e = record { says = rw (m.kind, e); proper = m.proper }

  pub read_spoiled : Made Spoiled r → all_zero x ≡ false → is_leaf x ≡ false → is_inner x ≡ false → Read x r
  unfolding slot_says kind_says slot_of
  read_spoiled m e f g = record { says = rw (m.kind, e, f, g); proper = m.proper }

  pub read_leaf : Held Leaf x r → all_zero x ≡ false → is_leaf x ≡ true → Read x r
  unfolding slot_says kind_says slot_of
  read_leaf h e f =
      let s : used (record_in x (leaf_in x)) ≡ slot_of x = rw (e, f) in
      record { says = ap (λ k. kind_says k r x) h.made.kind ∙ ap used (h.says (leaf_in x)) ∙ s; proper = h.made.proper }

  pub read_inner : {a b : declared-child.Child} → Held (Inner a b) x r → child_says a ≡ child_in 48 x → child_says b ≡ child_in 84 x →
      all_zero x ≡ false → is_leaf x ≡ false → is_inner x ≡ true → Read x r
  unfolding slot_says kind_says slot_of inner_in
  read_inner {a} {b} h k l e f g =
      let b' : inner_body (child_says a) (child_says b) ≡ inner_in x = ap₂ inner_body k l in
      let s : used (record_in x (inner_in x)) ≡ slot_of x = rw (e, f, g) in
      record {
        says = ap (λ k. kind_says k r x) h.made.kind ∙ ap used (h.says (inner_body (child_says a) (child_says b)) ∙ ap (record_in x) b') ∙ s;
        proper = h.made.proper;
      }
