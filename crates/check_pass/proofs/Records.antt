-- What the bytes of a slot say of the record in it. Assumes nothing.
use Prim.Native.Nat.{ℕ, ◌<◌, ◌≤◌}
use native.Mathlib.Omega.{arith}
use mathlib.Core.Path.{◌≡◌, refl, ap, sym, ◌∙◌, subst}
use mathlib.Core.Logic.{◌⊎◌, inl, inr}
use mathlib.Core.Bool.{true, false, cond}
use lib.Dec.{eqb}
use lib.ListN.{length}
use borrow.Author.Tests.{eqb-true}
use Rattle.terms.specs.declared.Form.{Form}
use Rattle.terms.specs.declared.Form.TheVariants.{Plain as plain, Counted as counted}
use Rattle.terms.specs.Bits.{Bytes, Byte, All}
use Rattle.terms.specs.Fields.{field, slice, zero_bytes}
use Rattle.terms.specs.Records.{Record, free, used, spoiled}
use Rattle.terms.proofs.Fields.{all_of_tests}
use Rattle.meaning.specs.Sound.{At}
use Rattle.meaning.proofs.Finding.{free_used, spoiled_used, used_eq}
use Rattle.layout.specs.Sizes.{slot_size, most_slots, leaf_kind, inner_kind}
use Rattle.layout.specs.Slots.{leaf_in, inner_in, record_in, head_right, is_leaf, is_inner, version_in, since_in, slot_of, slot_bytes}
use Rattle.layout.specs.Stores.{slot_in, store_in, Has, SlotWithin}
use Rattle.layout.proofs.Headers.{size_says}
use Rattle.layout.proofs.Slots.{slot_back, SlotCases, are_free, are_leaf, are_inner, are_spoiled, slot_cases, record_is}
use Rattle.store.proofs.Slots.{slots_many, slot_long, slot_bytes_lem, slot_within, slot_is}
use Rattle.check_pass.specs.Passes.{kind_in, Room}

-- a slot by its number
pub room_has : {fm : Form} {s : Bytes} {n i : ℕ} → Room fm s n → i < n → Has fm s i
room_has r h = record { size = r.size; inside = omega (arith, r.many) }

pub room_within : {fm : Form} (s : Bytes) {n i : ℕ} → Room fm s n → i < n → SlotWithin fm i s
room_within s r h = slot_within (room_has r h)

pub slot_small : {fm : Form} {s : Bytes} {i : ℕ} → Has fm s i → i < most_slots
slot_small {fm} {s} h = omega (arith, h.inside, size_says fm (length s) h.size)

pub free_spoiled : (x : Bytes) → free ≡ spoiled x → ⊥
free_spoiled x e = let z : ◌≡◌ {A = ℕ} 0 1 = cc in omega arith

leaf_kind_lem : (x : Bytes) → is_leaf x ≡ true → kind_in x ≡ leaf_kind
unfolding is_leaf head_right leaf_in
leaf_kind_lem x e = eqb-true (kind_in x) leaf_kind (all_of_tests _ (all_of_tests _ e).0).1.0

inner_kind_lem : (x : Bytes) → is_inner x ≡ true → kind_in x ≡ inner_kind (length x)
unfolding is_inner head_right inner_in
inner_kind_lem x e = eqb-true (kind_in x) (inner_kind (length x)) (all_of_tests _ (all_of_tests _ e).0).1.0

-- no inner record has the kind of a leaf
pub kind_most : (n : ℕ) → 3 ≤ inner_kind n
kind_most n = elim (eqb n 120) as (λ t. 3 ≤ cond t 3 5) [ true ↦ omega arith | false ↦ omega arith ]

abbrev pub LeafHere : Bytes → Record → Type 0
LeafHere x r = (kind_in x ≡ leaf_kind) × (r ≡ record_in x (leaf_in x))

abbrev pub InnerHere : Bytes → Record → Type 0
InnerHere x r = (kind_in x ≡ inner_kind (length x)) × (r ≡ record_in x (inner_in x)) × (is_inner x ≡ true)

-- bytes that are a record are a leaf or an inner record, and their kind says which
pub record_cases : (x : Bytes) (r : Record) → slot_of x ≡ used r → LeafHere x r ⊎ InnerHere x r
record_cases x r e = go (slot_cases x)
  where
    go : SlotCases x → LeafHere x r ⊎ InnerHere x r
    go (are_free z f) = free_used r (sym f ∙ e)
    go (are_leaf z l f) = inl (leaf_kind_lem x l, used_eq r (record_in x (leaf_in x)) (sym e ∙ f))
    go (are_inner z l i f) = inr (inner_kind_lem x i, used_eq r (record_in x (inner_in x)) (sym e ∙ f), i)
    go (are_spoiled z l i f) = spoiled_used x r (sym f ∙ e)

module _ (x : Bytes) (r : Record) (e : slot_of x ≡ used r) where
  pub version_of_lem : r.version ≡ version_in x
  unfolding record_in
  version_of_lem = ap (λ (q : Record). q.version) (sym (record_is x r e))

  pub retired_of : r.retired ≡ since_in x
  unfolding record_in
  retired_of = ap (λ (q : Record). q.retired) (sym (record_is x r e))

zeros_say : (fm : Form) → (version_in (zero_bytes (slot_size fm)) ≡ 0) × (kind_in (zero_bytes (slot_size fm)) ≡ 0)
unfolding zero_bytes field slice
zeros_say plain = (refl, refl)
zeros_say counted = (refl, refl)

-- a free slot's fields are 0
pub free_zero : (fm : Form) (x : Bytes) → length x ≡ slot_size fm → All Byte x → slot_of x ≡ free → (version_in x ≡ 0) × (kind_in x ≡ 0)
unfolding slot_bytes
free_zero fm x l b e = let z = sym (ap (slot_bytes fm) e) ∙ slot_back fm x l b in let (v, k) = zeros_say fm in (ap version_in (sym z) ∙ v, ap kind_in (sym z) ∙ k)

-- the bytes of slot i, as they were read
module _ {fm : Form} {s : Bytes} {i : ℕ} (h : Has fm s i) {x : Bytes} (here : x ≡ slot_in fm i s) where
  pub read_long : length x ≡ slot_size fm
  read_long = ap length here ∙ slot_long fm i s (slot_within h)

  pub read_bytes : All Byte s → All Byte x
  read_bytes b = subst (All Byte) (sym here) (slot_bytes_lem fm i s b)

  pub read_as : (r : Record) → At (store_in fm s) i r → slot_of x ≡ used r
  unfolding At
  read_as r a = ap slot_of here ∙ sym (slot_is h) ∙ a.1

  pub stands : (r : Record) → slot_of x ≡ used r → At (store_in fm s) i r
  unfolding At
  stands r e = (omega (arith, h.inside, slots_many fm s), slot_is h ∙ ap slot_of (sym here) ∙ e)
