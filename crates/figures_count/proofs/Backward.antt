-- A loop over the slots from the last to the first: what holds of the slots from i on. Assumes nothing.
use Prim.Native.Nat.{ℕ, suc, ◌+◌, ◌-◌, ◌<◌, ◌≤◌}
use native.Mathlib.Omega.{arith}
use mathlib.Core.Path.{◌≡◌, ap, sym, ◌∙◌, subst}
use mathlib.Core.List.{List, [], ◌∷◌}
use lib.ListN.{length, drop, drop_of_length-le, length-drop}
use lib.Seq.{drop-cons}
use Rattle.terms.specs.declared.Form.TheVariants.{Counted as counted}
use Rattle.terms.specs.Bits.{Bytes}
use Rattle.terms.specs.Records.{Slot, free}
use Rattle.layout.specs.Sizes.{room_of}
use Rattle.layout.specs.Stores.{store_of, slot_no}
use Rattle.layout.proofs.Headers.{size_says}
use Rattle.store.proofs.Slots.{slots_many}
use Rattle.figures_count.specs.Count.{Plain, Whole}

pub record Backward (s : Bytes) (P : List Slot → Type 0) (n i : ℕ) : Type 0 where
  pub store : Whole s
  pub room : n ≡ room_of counted (length s)
  pub small : n ≤ 16384
  pub within : i ≤ n
  pub holds : P (drop i (store_of s).slots)

pub backward_start : {s : Bytes} {n : ℕ} (P : List Slot → Type 0) → Whole s → n ≡ room_of counted (length s) → P [] → Backward s P n n
backward_start {s} {n} P w e p = record {
  store = w;
  room = e;
  small = omega (arith, size_says counted (length s) w.size);
  within = omega arith;
  holds = subst P (sym (drop_of_length-le (store_of s).slots {i = n} (omega (arith, slots_many counted s)))) p;
}

module _ {s : Bytes} {P : List Slot → Type 0} {n i : ℕ} (w : Backward s P n i) where
  pub backward_slot : 0 < i → Plain s (i - 1)
  backward_slot h = record {
    has = record { size = w.store.size; inside = omega (arith, w.room, w.within) };
    whole = λ x. w.store.whole (i - 1) x (omega (arith, w.room, w.within));
  }

  pub backward_next : (h : 0 < i) (Q : List Slot → Type 0) → Q (slot_no counted (i - 1) s ∷ drop i (store_of s).slots) → Backward s Q n (i - 1)
  backward_next h Q q = record {
    store = w.store;
    room = w.room;
    small = w.small;
    within = omega (arith, w.within);
    holds =
        let k : i ≡ suc (i - 1) = omega arith in
        subst Q
        (ap (λ m. slot_no counted (i - 1) s ∷ drop m (store_of s).slots) k
        ∙ sym (drop-cons (store_of s).slots (i - 1) free (omega (arith, slots_many counted s, w.room, w.within))))
        q;
  }

  pub backward_end : i ≤ 0 → P (store_of s).slots
  backward_end h = let k : i ≡ 0 = omega arith in subst (λ m. P (drop m (store_of s).slots)) k w.holds

  -- the slots passed are as many as the store has below 16,384
  pub backward_few : length (drop i (store_of s).slots) + i ≤ 16384
  backward_few = simp length-drop (omega (arith, slots_many counted s, w.room, w.within, w.small))
