-- The numbers of two buffers compared are those of their slots: a kept record has the same bytes exactly if its retired-since stayed, for
-- nothing else in it changes. Assumes nothing.
use Prim.Native.Nat.{ℕ, zero, suc, ◌*◌, ◌≤◌}
use native.Mathlib.Omega.{arith}
use mathlib.Core.Path.{◌≡◌, refl, ap, ap₂, sym, ◌∙◌, subst}
use mathlib.Core.Bool.{Bool, true, false, true≢false}
use mathlib.Core.List.{List, [], ◌∷◌, ◌++◌}
use lib.ListN.{length, take, drop, length-drop}
use lib.Seq.{take_at, drop_at, length-take-le}
use lib.Dec.{eqb}
use borrow.Author.Tests.{eq-eqb, ne_eqb, eqb-true}
use Rattle.terms.specs.declared.Form.{Form}
use Rattle.terms.specs.declared.Form.TheVariants.{Counted as counted}
use Rattle.terms.specs.Bits.{Bytes, Byte, All, same_bytes}
use Rattle.terms.specs.Fields.{all_zero}
use Rattle.terms.specs.Records.{Record, Slot, free, used, spoiled, store_from}
use Rattle.terms.proofs.Lists.{all_take, all_drop}
use Rattle.terms.proofs.Tests.{is_false, same_bytes_lem, bytes_same}
use Rattle.meaning.specs.Store.{marked}
use Rattle.meaning.proofs.Finding.{used_eq}
use Rattle.layout.specs.Sizes.{header_size, slot_size, room_of}
use Rattle.layout.specs.Headers.{size_right, header_bytes}
use Rattle.layout.specs.Slots.{slot_of, slot_bytes, SlotForm}
use Rattle.layout.specs.Stores.{slots_of, slots_bytes, slots_as, store_bytes}
use Rattle.layout.proofs.Headers.{size_says, length_header, slot_after}
use Rattle.layout.proofs.Slots.{slot_back, slot_said, length_slot, zero_free, free_zero}
use Rattle.layout.proofs.Stores.{length_slots}
use Rattle.rescue_rules.specs.Rescue.{taken, without, Counts, compared, counts}
use Rattle.rescue_laws.proofs.Taken.{Nodes, Setting, after, on_from}
use Rattle.rescue_laws.proofs.Counts.{same_is_same}
use Rattle.rescue_bytes.specs.Numbers.{compared_bytes, compared_slots, numbers_of}
use Rattle.rescue_bytes.specs.Rescues.{slots_in}

-- a slot of the target is free, or has the source's record with some retired-since
abbrev KeptFrom : Slot → Slot → Type 0
KeptFrom x free = Unit {0}
KeptFrom free (used q) = ⊥
KeptFrom (used r) (used q) = q ≡ marked q.retired r
KeptFrom (spoiled z) (used q) = ⊥
KeptFrom x (spoiled y) = ⊥

abbrev pub EachFrom : List Slot → List Slot → Type 0
EachFrom [] ts = Unit {0}
EachFrom (x ∷ s) [] = ⊥
EachFrom (x ∷ s) (y ∷ ts) = KeptFrom x y × EachFrom s ts

pub taken_from : (nodes : Nodes) (set : Setting) (s : List Slot) → EachFrom s (taken nodes set s)
unfolding marked
taken_from nodes set [] = tt
taken_from nodes set (free ∷ s) = (tt, taken_from nodes set s)
taken_from nodes set (used r ∷ s) = go (nodes r.version r.place) (taken_from nodes set s) (taken_from (without r.version r.place nodes) set s)
  where
    go : (b : Bool) → EachFrom s (taken nodes set s) → EachFrom s (after nodes set r s) → EachFrom (used r ∷ s) (on_from b nodes set r s)
    go true h k = (refl, k)
    go false h k = (tt, h)
taken_from nodes set (spoiled x ∷ s) = (tt, taken_from nodes set s)

-- bytes of a slot that isn't free aren't all zero
used_bytes : (x : Bytes) (a : Slot) → slot_of x ≡ a → (a ≡ free → ⊥) → all_zero x ≡ false
used_bytes x a e n = is_false (all_zero x) (λ z. n (sym e ∙ zero_free x z))

used_not_free : (r : Record) → used r ≡ free → ⊥
used_not_free r e = let z : true ≡ false = cc in true≢false z

spoiled_not_free : (x : Bytes) → spoiled x ≡ free → ⊥
spoiled_not_free x e = let z : true ≡ false = cc in true≢false z

module _ (fm : Form) where
  free_bytes : all_zero (slot_bytes fm free) ≡ true
  free_bytes = free_zero (slot_bytes fm free) (slot_said fm free tt)

  same_retired : (x : Bytes) (r q : Record) → length x ≡ slot_size fm → All Byte x → SlotForm fm (used q) → slot_of x ≡ used r →
      q ≡ marked q.retired r → same_bytes x (slot_bytes fm (used q)) ≡ eqb r.retired q.retired
  same_retired x r q long h form e k = go (eqb r.retired q.retired) refl
    where
      is : x ≡ slot_bytes fm (used r)
      is = sym (slot_back fm x long h) ∙ ap (slot_bytes fm) e

      go : (b : Bool) → eqb r.retired q.retired ≡ b → same_bytes x (slot_bytes fm (used q)) ≡ b
      go true b =
          let same : q ≡ r = k ∙ same_is_same r q.retired (eqb-true r.retired q.retired b) in
          ap (same_bytes x) (ap (λ y. slot_bytes fm (used y)) same ∙ sym is) ∙ bytes_same x
      go false b = is_false (same_bytes x (slot_bytes fm (used q))) (λ same.
          let y : used r ≡ used q = sym e ∙ ap slot_of (same_bytes_lem x (slot_bytes fm (used q)) same) ∙ slot_said fm (used q) form in
          true≢false (sym (eq-eqb r.retired q.retired (ap (λ z. z.retired) (used_eq r q y))) ∙ b))

  slot_compared : (x : Bytes) (y : Slot) (c : Counts) → length x ≡ slot_size fm → All Byte x → SlotForm fm y →
      (a : Slot) → slot_of x ≡ a → KeptFrom a y → compared_bytes x (slot_bytes fm y) c ≡ compared a y c
  slot_compared x y c long h form free e k = rw (free_zero x e)
  slot_compared x free c long h form (used r) e k = rw (used_bytes x (used r) e (used_not_free r), free_bytes)
  slot_compared x (used q) c long h form (used r) e k =
      rw (
        used_bytes x (used r) e (used_not_free r),
        used_bytes (slot_bytes fm (used q)) (used q) (slot_said fm (used q) form) (used_not_free q),
        same_retired x r q long h form e k,
      )
  slot_compared x (spoiled z) c long h form (used r) e k = absurd k
  slot_compared x free c long h form (spoiled z) e k = rw (used_bytes x (spoiled z) e (spoiled_not_free z), free_bytes)
  slot_compared x (used q) c long h form (spoiled z) e k = absurd k
  slot_compared x (spoiled y) c long h form (spoiled z) e k = absurd k

  slots_compared : (n : ℕ) (s : Bytes) (ts : List Slot) → All Byte s → slot_size fm * n ≤ length s → length ts ≡ n → All (SlotForm fm) ts →
      EachFrom (slots_of fm n s) ts → compared_slots (slot_size fm) n s (slots_bytes fm ts) ≡ counts (slots_of fm n s) ts
  slots_compared zero s ts h l m form k = refl
  slots_compared (suc n) s [] h l m form k = absurd (omega arith)
  slots_compared (suc n) s (y ∷ ts) h l m form k =
      let long = length_slot fm y form.0 in
      let more = slot_after fm n in
      rw (
        take_at (slot_bytes fm y) (slots_bytes fm ts) (slot_size fm) long,
        drop_at (slot_bytes fm y) (slots_bytes fm ts) (slot_size fm) long,
        slots_compared n (drop (slot_size fm) s) ts (all_drop Byte (slot_size fm) s h) (rw (length-drop (slot_size fm) s) (omega (arith, more))) (omega arith) form.1 k.1,
      )
      (slot_compared (take (slot_size fm) s) y (counts (slots_of fm n (drop (slot_size fm) s)) ts) (length-take-le (slot_size fm) s (omega (arith, more)))
      (all_take Byte (slot_size fm) s h) form.0 (slot_of (take (slot_size fm) s)) refl k.0)

-- bytes compared with themselves: nothing changed and nothing left out
same_bytes_same : (x : Bytes) (c : Counts) → (c.other ≡ 0) × (c.out ≡ 0) → ((compared_bytes x x c).other ≡ 0) × ((compared_bytes x x c).out ≡ 0)
same_bytes_same x c h = go (all_zero x) refl
  where
    go : (b : Bool) → all_zero x ≡ b → ((compared_bytes x x c).other ≡ 0) × ((compared_bytes x x c).out ≡ 0)
    go true e = rw e h
    go false e = rw (e, bytes_same x) h

same_slots : (size n : ℕ) (s : Bytes) → ((compared_slots size n s s).other ≡ 0) × ((compared_slots size n s s).out ≡ 0)
same_slots size zero s = (refl, refl)
same_slots size (suc n) s = same_bytes_same (take size s) (compared_slots size n (drop size s) (drop size s)) (same_slots size n (drop size s))

pub nothing_changed : (s : Bytes) → ((numbers_of s s).other ≡ 0) × ((numbers_of s s).out ≡ 0)
unfolding numbers_of
nothing_changed s = same_slots (slot_size counted) (room_of counted (length s)) (drop header_size s)

-- A source's bytes and those of a store in form whose slots are free or have the source's records.
pub numbers_are : (s : Bytes) (old new : ℕ) (ts : List Slot) → All Byte s → size_right counted (length s) ≡ true → All (SlotForm counted) ts →
    length ts ≡ length (slots_in s) → EachFrom (slots_in s) ts →
    numbers_of s (store_bytes (store_from counted old new ts)) ≡ counts (slots_in s) ts
unfolding numbers_of store_bytes slots_as
numbers_are s old new ts h size form m k =
    ap (compared_slots (slot_size counted) (room_of counted (length s)) (drop header_size s))
    (drop_at (header_bytes counted (length ts) old new) (slots_bytes counted ts) header_size (length_header counted (length ts) old new))
    ∙ slots_compared counted (room_of counted (length s)) (drop header_size s) ts (all_drop Byte header_size s h)
    (subst (λ l. slot_size counted * room_of counted (length s) ≤ l) (sym (length-drop header_size s)) (omega (arith, (size_says counted (length s) size).0)))
    (m ∙ length_slots counted (room_of counted (length s)) (drop header_size s)) form k
