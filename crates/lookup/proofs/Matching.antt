-- Whether a slot is the node asked for, from its bytes: a record in form is its own bytes, so version, bit count and bits decide. Assumes
-- nothing.
use Prim.Native.Nat.{ℕ, zero, suc, ◌+◌, ◌<◌, ◌≤◌}
use native.Mathlib.Omega.{arith}
use mathlib.Core.Path.{◌≡◌, refl, ap, ap₂, sym, ◌∙◌, subst}
use mathlib.Core.Bool.{Bool, true, false, cond, ◌&&◌, true≢false}
use mathlib.Core.List.{[], ◌∷◌}
use lib.ListN.{length, get_or, take, drop}
use lib.Seq.{ext_get_or, get_or-drop, get_or-take}
use lib.Dec.{eqb}
use borrow.Author.Tests.{eqb-true, eq-eqb}
use Rattle.terms.specs.declared.Form.{Form}
use Rattle.terms.specs.Bits.{Bytes, Byte, All, Place, pack, bits}
use Rattle.terms.specs.Fields.{num, field, slice, all_zero}
use Rattle.terms.specs.Records.{Body, leaf_body, inner_body, Record, free, used, spoiled}
use Rattle.terms.specs.Form.{RecordForm, FormedAs, place_limit}
use Rattle.terms.proofs.Tests.{and_left, and_right, is_false, place_same}
use Rattle.terms.proofs.Places.{place_packed, length_pack}
use Rattle.terms.proofs.Fields.{length_slice, all_of_tests}
use Rattle.meaning.specs.Store.{is_node}
use Rattle.meaning.proofs.Finding.{is_node_eq}
use Rattle.layout.specs.Sizes.{slot_size}
use Rattle.layout.specs.Slots.{slot_of, slot_bytes, record_bytes, count_in, head_right, is_leaf, is_inner, leaf_in, inner_in, record_in, SlotForm}
use Rattle.layout.proofs.Headers.{size_small}
use Rattle.layout.proofs.Slots.{slot_back, slot_form, count_says, version_says, retired_says, bits_say}
use Rattle.lookup.specs.Lookup.{is_used}

-- the bytes of a slot that are read as a record
pub record Says (fm : Form) (x : Bytes) (r : Record) : Type 0 where
  pub form : RecordForm r
  pub bare : FormedAs fm r
  pub bytes : record_bytes fm r ≡ x

pub says : {fm : Form} (x : Bytes) → length x ≡ slot_size fm → All Byte x → (r : Record) → slot_of x ≡ used r → Says fm x r
unfolding slot_bytes
says {fm} x l h r e = record {
  form = (subst (λ s. SlotForm fm s) e (slot_form fm x l h)).0;
  bare = (subst (λ s. SlotForm fm s) e (slot_form fm x l h)).1;
  bytes = sym (ap (slot_bytes fm) e) ∙ slot_back fm x l h;
}

module _ (fm : Form) (x : Bytes) (l : length x ≡ slot_size fm) (h : All Byte x) (r : Record) (e : slot_of x ≡ used r) where
  pub version_is : field 40 4 x ≡ r.version
  version_is = let s = says {fm = fm} x l h r e in ap (field 40 4) (sym s.bytes) ∙ version_says fm r s.form

  pub retired_is : field 44 4 x ≡ r.retired
  retired_is = let s = says {fm = fm} x l h r e in ap (field 44 4) (sym s.bytes) ∙ retired_says fm r s.form

  pub count_is_lem : field 6 2 x ≡ length r.place
  unfolding count_in
  count_is_lem = let s = says {fm = fm} x l h r e in ap (field 6 2) (sym s.bytes) ∙ count_says fm r s.form

  pub bits_are : slice 8 32 x ≡ pack 32 r.place
  bits_are = let s = says {fm = fm} x l h r e in ap (slice 8 32) (sym s.bytes) ∙ bits_say fm r s.form

limit_small : (b : Body) → place_limit b ≤ 256
limit_small (leaf_body k x) = omega arith
limit_small (inner_body l r) = omega arith

-- a place without bits is the root's
pub no_bits : (p : Place) → length p ≡ 0 → p ≡ []
no_bits [] e = refl
no_bits (b ∷ p) e = absurd (omega arith)

-- places with the same count and the same bytes are the same
pub same_packed : (p q : Place) → length p ≤ 256 → length q ≤ 256 → length p ≡ length q → pack 32 p ≡ pack 32 q → p ≡ q
same_packed p q a b n e =
    sym (place_packed 32 p a) ∙ ap₂ (λ m y. take m (bits y)) n e ∙ place_packed 32 q b

-- a record whose count and bits are those of a place stands there
pub place_is : (fm : Form) (x : Bytes) → length x ≡ slot_size fm → All Byte x → (r : Record) → slot_of x ≡ used r → (p : Place) → length p ≤ 256 → field 6 2 x ≡ length p →
    slice 8 32 x ≡ pack 32 p → r.place ≡ p
place_is fm x l h r e p short b same =
    let s = says {fm = fm} x l h r e in
    same_packed r.place p (omega (arith, s.form.short, limit_small r.body)) short (sym (count_is_lem fm x l h r e) ∙ b) (sym (bits_are fm x l h r e) ∙ same)

bits_at : (x : Bytes) (j : ℕ) → j < 32 → get_or (slice 8 32 x) j 0 ≡ get_or x (8 + j) 0
unfolding slice
bits_at x j h = get_or-take 32 (drop 8 x) j 0 h ∙ get_or-drop 8 x j 0

pub and_false : (c : Bool) → (c && false) ≡ false
and_false true = refl
and_false false = refl

-- a slot is no node (v, p)
abbrev pub NoNode : Bytes → ℕ → Place → Type 0
NoNode x v p = (r : Record) → slot_of x ≡ used r → is_node v p r ≡ false

module _ (fm : Form) (x : Bytes) (l : length x ≡ slot_size fm) (h : All Byte x) (v : ℕ) (p : Place) where
  pub off_version : (field 40 4 x ≡ v → ⊥) → NoNode x v p
  off_version f r e = is_false (is_node v p r) (λ t. f (version_is fm x l h r e ∙ (is_node_eq v p r t).0))

  pub off_count : (field 6 2 x ≡ length p → ⊥) → NoNode x v p
  off_count f r e = is_false (is_node v p r) (λ t. f (count_is_lem fm x l h r e ∙ ap length (is_node_eq v p r t).1))

  pub off_bits : (slice 8 32 x ≡ pack 32 p → ⊥) → NoNode x v p
  off_bits f r e = is_false (is_node v p r) (λ t. f (bits_are fm x l h r e ∙ ap (pack 32) (is_node_eq v p r t).1))

  pub off_byte : (j : ℕ) → j < 32 → (get_or x (8 + j) 0 ≡ get_or (pack 32 p) j 0 → ⊥) → NoNode x v p
  off_byte j k f = off_bits (λ e. f (sym (bits_at x j k) ∙ ap (λ y. get_or y j 0) e))

  pub is_node_lem : length p ≤ 256 → field 40 4 x ≡ v → field 6 2 x ≡ length p → slice 8 32 x ≡ pack 32 p → (r : Record) → slot_of x ≡ used r → is_node v p r ≡ true
  unfolding is_node
  is_node_lem short a b same r e = rw (eq-eqb r.version v (sym (version_is fm x l h r e) ∙ a), place_is fm x l h r e p short b same) (place_same p)

  pub is_here : length p ≤ 256 → field 40 4 x ≡ v → field 6 2 x ≡ length p → ((j : ℕ) → j < 32 → get_or x (8 + j) 0 ≡ get_or (pack 32 p) j 0) →
      (r : Record) → slot_of x ≡ used r → is_node v p r ≡ true
  is_here short a b c =
      let m = length_slice 8 32 x (omega (arith, size_small fm)) in
      is_node_lem short a b
      (ext_get_or 0 (slice 8 32 x) (pack 32 p) (m ∙ sym (length_pack 32 p)) (λ i k. let n : i < 32 = omega arith in bits_at x i n ∙ c i n))

-- zero bytes say 0
zero_said : (n : ℕ) (x : Bytes) → all_zero x ≡ true → num (take n x) ≡ 0
zero_said zero x z = refl
zero_said (suc n) [] z = refl
zero_said (suc n) (a ∷ x) z =
    let e = eqb-true a 0 (and_left (eqb a 0) (all_zero x) z) in omega (arith, zero_said n x (and_right (eqb a 0) (all_zero x) z))

-- bytes in form as a leaf or an inner record are not free
not_free : (x : Bytes) → 112 ≤ field 0 4 x → all_zero x ≡ false
unfolding field slice
not_free x e = is_false (all_zero x) (λ z. omega (arith, zero_said 4 x z))

leaf_length : (x : Bytes) → is_leaf x ≡ true → field 0 4 x ≡ 112
unfolding is_leaf head_right leaf_in
leaf_length x e = eqb-true (field 0 4 x) 112 (all_of_tests _ (all_of_tests _ e).0).0

inner_length : (x : Bytes) → is_inner x ≡ true → field 0 4 x ≡ length x
unfolding is_inner head_right inner_in
inner_length x e = eqb-true (field 0 4 x) (length x) (all_of_tests _ (all_of_tests _ e).0).0

pub leaf_used : (x : Bytes) → is_leaf x ≡ true → is_used (slot_of x) ≡ true
unfolding slot_of
leaf_used x e = rw (not_free x (omega (arith, leaf_length x e)), e)

pub inner_used : (x : Bytes) → 120 ≤ length x → is_leaf x ≡ false → is_used (slot_of x) ≡ is_inner x
unfolding slot_of
inner_used x l e = go (all_zero x) (is_inner x) refl refl
  where
    go : (a b : Bool) → all_zero x ≡ a → is_inner x ≡ b →
        is_used (cond a free (cond (is_leaf x) (used (record_in x (leaf_in x))) (cond b (used (record_in x (inner_in x))) (spoiled x)))) ≡ b
    go true true z i = absurd (true≢false (sym z ∙ not_free x (omega (arith, inner_length x i))))
    go true false z i = refl
    go false true z i = rw e
    go false false z i = rw e
