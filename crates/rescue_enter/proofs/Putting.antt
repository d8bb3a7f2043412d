-- A record copied to its slot of the target, with another retired-since: the target stays in form, and nothing else changes. Assumes nothing.
use Prim.Native.Nat.{ℕ, zero, suc, ◌+◌, ◌<◌, ◌≤◌}
use native.Mathlib.Omega.{arith}
use mathlib.Core.Path.{◌≡◌, refl, ap, ap₂, sym, ◌∙◌, subst}
use mathlib.Core.Bool.{true}
use mathlib.Core.List.{List, [], ◌∷◌}
use lib.ListN.{length, get_or, set, length-set}
use lib.Seq.{get_or-set_same}
use Rattle.terms.specs.declared.Form.TheVariants.{Counted as counted}
use Rattle.terms.specs.Bits.{Bytes, Byte, All, Place}
use Rattle.terms.specs.Fields.{le}
use Rattle.terms.specs.Records.{Record, Slot, free, used, Store}
use Rattle.terms.specs.Form.{RecordForm, top32}
use Rattle.meaning.specs.Store.{marked}
use Rattle.meaning.proofs.Finding.{used_eq}
use Rattle.store_put.specs.Copied.{with_bytes}
use Rattle.layout.specs.Sizes.{room_of}
use Rattle.layout.specs.Headers.{size_right}
use Rattle.layout.specs.Slots.{slot_of, slot_bytes, record_of, SlotForm}
use Rattle.layout.specs.Stores.{slot_in, store_of, store_bytes, slot_no, Has, SlotWithin, StoreForm, put_slot, with_slot, with_since}
use Rattle.layout.proofs.Slots.{slot_back}
use Rattle.layout.proofs.Stores.{slot_put_form, slot_put_bytes, retired_put_bytes, store_said}
use Rattle.store.proofs.Slots.{slots_many, slot_long, slot_bytes_lem, slot_within, slot_is, slot_formed}
use Rattle.std.specs.declared.option.Option as option
use Rattle.std.specs.Prelude.{Some, None}
use Rattle.rescue_rules.specs.Entering.{LowestAt, Put, nothing, puts}
use Rattle.rescue_look.specs.Look.{LowestIn}
use Rattle.rescue_enter.specs.Enter.{Target, Held, Puts}

set_twice : (xs : List Slot) (i : ℕ) (x y : Slot) → set (set xs i x) i y ≡ set xs i y
set_twice [] i x y = refl
set_twice (z ∷ xs) zero x y = refl
set_twice (z ∷ xs) (suc i) x y = ap (z ∷◌) (set_twice xs i x y)

-- nothing was found
pub put_none : (s t : Bytes) (n : ℕ) {f : option.Option ℕ} → Target s t → f ≡ None → Puts s f n t t
put_none s t n h e = record { target = h; puts = λ v p l. nothing (subst (LowestIn (store_of s).slots v p) e l) }

-- the slot of a record lies in both
pub held_slot : (s t : Bytes) {f : option.Option ℕ} {i : ℕ} → Target s t → Held s f → f ≡ Some i → SlotWithin counted i s × SlotWithin counted i t
held_slot s t {f} {i} h k e =
    let x = subst (Held s) e k in
    let w = slot_within x.0 in
    (w, omega (arith, w, h.equal))

module _ (s t : Bytes) (target : Target s t) {f : option.Option ℕ} {i : ℕ} (held : Held s f) (e : f ≡ Some i) (bytes : All Byte s) (n : ℕ) (small : n ≤ top32) where
  it : Held s (Some i)
  it = subst (Held s) e held

  abbrev r : Record
  r = it.1.0

  says : slot_of (slot_in counted i s) ≡ used r
  says = sym (slot_is it.0) ∙ it.1.1

  form : SlotForm counted (used r)
  form = subst (SlotForm counted) says (slot_formed it.0 bytes)

  own_bytes : slot_bytes counted (used r) ≡ slot_in counted i s
  own_bytes = ap (slot_bytes counted) (sym says) ∙ slot_back counted (slot_in counted i s) (slot_long counted i s (slot_within it.0)) (slot_bytes_lem counted i s bytes)

  inside : i < length (store_of t).slots
  inside = omega (arith, slots_many counted t, ap (room_of counted) target.equal, it.0.inside)

  abbrev one : Store
  one = put_slot i (used r) (store_of t)

  one_form : StoreForm one
  one_form = slot_put_form (store_of t) target.form i (used r) form inside

  one_bytes : with_bytes i (slot_in counted i s) t ≡ store_bytes one
  one_bytes =
      ap₂ (λ x y. with_bytes i x y) (sym own_bytes) target.bytes ∙ sym (slot_put_bytes (store_of t) target.form i (used r) form inside)

  one_inside : i < length one.slots
  unfolding put_slot
  one_inside = rw (length-set (store_of t).slots i (used r)) inside

  one_slot : get_or one.slots i free ≡ used r
  unfolding put_slot
  one_slot = get_or-set_same (store_of t).slots i (used r) free inside

  abbrev mark : Slot
  mark = used (record_of r.place r.version n r.body r.counts)

  mark_form : SlotForm counted mark
  mark_form = (record { short = form.0.short; versioned = form.0.versioned; number = small; body = form.0.body; counts = form.0.counts }, tt)

  abbrev two : Store
  two = put_slot i mark one

  two_form : StoreForm two
  unfolding put_slot
  two_form = slot_put_form one one_form i mark mark_form one_inside

  two_slots : two.slots ≡ set (store_of t).slots i (used (marked n r))
  unfolding put_slot marked
  two_slots = set_twice (store_of t).slots i (used r) mark

  module _ {t₁ t₂ x : Bytes} (slot : x ≡ slot_in counted i s) (copied : t₁ ≡ with_bytes i x t) (set-since : t₂ ≡ with_since counted i n t₁) (same : length t₂ ≡ length t) where
    after : t₂ ≡ store_bytes two
    unfolding put_slot
    after =
        set-since
        ∙ ap (with_since counted i n) (copied ∙ ap (λ y. with_bytes i y t) slot ∙ one_bytes)
        ∙ sym (retired_put_bytes one one_form i r n one_inside one_slot form small)

    after_store : store_of t₂ ≡ two
    unfolding put_slot
    after_store = ap store_of after ∙ store_said two two_form

    pub put_at : Puts s f n t t₂
    put_at = record {
      target = record {
        size = target.size;
        equal = same ∙ target.equal;
        bytes = after ∙ ap store_bytes (sym after_store);
        form = subst StoreForm (sym after_store) two_form;
      };
      puts = λ v p l.
          let k = (subst (LowestIn (store_of s).slots v p) e l).1 in
          let q : k.0 ≡ r = used_eq k.0 r (sym k.1.at ∙ it.1.1) in
          subst (Put (store_of s).slots n v p (store_of t).slots)
          (ap (λ y. set (store_of t).slots i (used (marked n y))) q ∙ sym (ap (λ (y : Store). y.slots) after_store ∙ two_slots)) (puts k.1);
    }
