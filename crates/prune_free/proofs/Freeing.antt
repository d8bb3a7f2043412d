-- Freeing from slot to slot: a slot's retired-since says whether its record goes, and before slot i all are pruned, from it on none is.
-- Assumes nothing.
use Prim.Native.Nat.{ℕ, ◌+◌, ◌<◌, ◌≤◌}
use native.Mathlib.Omega.{arith}
use mathlib.Core.Path.{◌≡◌, refl, ap, sym, ◌∙◌, subst}
use mathlib.Core.Bool.{Bool, true, false, cond, ◌&&◌}
use mathlib.Core.List.{List, [], ◌∷◌, ◌++◌, append-nil, map-append}
use lib.ListN.{length, take, drop, set, length-map, length-append, length-take, length-drop}
use lib.Seq.{append_snoc, set_at, get_or_at, length-take-le}
use lib.Dec.{leb}
use borrow.Author.Tests.{le-leb, lt-leb}
use Rattle.terms.specs.declared.Form.TheVariants.{Counted as counted}
use Rattle.terms.specs.Bits.{Bytes}
use Rattle.terms.specs.Fields.{field, slice, zero_bytes}
use Rattle.terms.specs.Records.{Record, Slot, free, used, spoiled, Store}
use Rattle.terms.specs.Form.{RecordForm}
use Rattle.terms.proofs.Lists.{all_at}
use Rattle.terms.proofs.Tests.{and_comm}
use Rattle.meaning.specs.Store.{free_slots, on_record, retired_by, prune_record, pruned}
use Rattle.layout.specs.Sizes.{room_of}
use Rattle.layout.specs.Headers.{size_right}
use Rattle.layout.specs.Slots.{since_in, slot_bytes, SlotForm}
use Rattle.layout.specs.Stores.{slot_in, store_of, store_bytes, slot_no, SlotWithin, with_slot, StoreForm, put_slot}
use Rattle.layout.proofs.Slots.{retired_says}
use Rattle.layout.proofs.Headers.{size_ends}
use Rattle.layout.proofs.Stores.{store_size, store_room, slot_in_lem, slot_put_form, slot_put_bytes}
use Rattle.store.proofs.Slots.{slot_within}
use Rattle.store.proofs.Scans.{Scan, scan_start, scan_many, scan_slot, scan_inside, scan_here, scan_next, scan_end}
use Rattle.prune_free.specs.Free.{retired_in, freed_slot, freed_count, Readable, emptied, Frees}

-- what pruning leaves in a slot
abbrev pruned_slot : ℕ → Slot → Slot
pruned_slot n x = on_record (prune_record n) x

free_not_retired : (n : ℕ) → retired_in n (slot_bytes counted free) ≡ false
unfolding retired_in slot_bytes field slice zero_bytes
free_not_retired n = refl

-- a slot is freed, and it held a record; or it stays
data Fate (n : ℕ) (x : Slot) : Type 0 where
  goes : retired_in n (slot_bytes counted x) ≡ true → (r : Record) → x ≡ used r → pruned_slot n x ≡ free → Fate n x
  stays : retired_in n (slot_bytes counted x) ≡ false → pruned_slot n x ≡ x → Fate n x

retired_is : (n : ℕ) (r : Record) → RecordForm r → retired_in n (slot_bytes counted (used r)) ≡ retired_by n r
unfolding retired_in slot_bytes retired_by
retired_is n r f = ap (λ m. leb 1 m && leb m n) (retired_says counted r f)

fate : (n : ℕ) (x : Slot) → SlotForm counted x → ((y : Bytes) → x ≡ spoiled y → ⊥) → Fate n x
unfolding prune_record
fate n free f w = stays (free_not_retired n) refl
fate n (used r) f w = go (retired_by n r) refl
  where
    go : (b : Bool) → retired_by n r ≡ b → Fate n (used r)
    go true e = goes (retired_is n r f.0 ∙ e) r refl (rw e)
    go false e = stays (retired_is n r f.0 ∙ e) (rw e)
fate n (spoiled y) f w = absurd (w y refl)

-- one record freed, one free slot more
free_more : (xs : List Slot) (r : Record) (ys : List Slot) → free_slots (xs ++ free ∷ ys) ≡ free_slots (xs ++ used r ∷ ys) + 1
free_more [] r ys = omega arith
free_more (free ∷ xs) r ys = omega (arith, free_more xs r ys)
free_more (used q ∷ xs) r ys = free_more xs r ys
free_more (spoiled y ∷ xs) r ys = free_more xs r ys

-- a store with these slots
abbrev with_slots : Store → List Slot → Store
with_slots st xs = record { form = st.form; oldest = st.oldest; latest = st.latest; slots = xs }

-- s is the store of s₀ with the slots passed pruned and those to come as they were, and as many were freed as there are free slots more
pub record Freed (n : ℕ) (s₀ s : Bytes) (freed : ℕ) (xs ys : List Slot) : Type 0 where
  pub form : StoreForm (with_slots (store_of s₀) (pruned n xs ++ ys))
  pub bytes : s ≡ store_bytes (with_slots (store_of s₀) (pruned n xs ++ ys))
  pub count : free_slots (pruned n xs ++ ys) ≡ free_slots (store_of s₀).slots + freed

-- at slot i of m
pub record Freeing (n : ℕ) (s₀ s : Bytes) (m freed i : ℕ) : Type 0 where
  pub start : Readable s₀
  pub scan : Scan counted s₀ (Freed n s₀ s freed) m i
  pub few : freed ≤ i

-- one slot more is passed: it is freed, or it stays
module _ (n : ℕ) (s₀ : Bytes) (xs : List Slot) (x : Slot) (ys : List Slot) (i : ℕ) (long : length xs ≡ i) where
  pruned_long : length (pruned n xs) ≡ i
  pruned_long = length-map xs (on_record (prune_record n)) ∙ long

  passed : pruned n (xs ++ x ∷ []) ++ ys ≡ pruned n xs ++ pruned_slot n x ∷ ys
  passed = rw (map-append (on_record (prune_record n)) xs (x ∷ [])) (append_snoc (pruned n xs) (pruned_slot n x) ys)

  inside : i < length (pruned n xs ++ x ∷ ys)
  inside = simp length-append (omega (arith, pruned_long))

  module _ {s : Bytes} {freed : ℕ} (w : Freed n s₀ s freed xs (x ∷ ys)) where
    slot_held : slot_in counted i s ≡ slot_bytes counted x
    slot_held =
        ap (slot_in counted i) w.bytes
        ∙ slot_in_lem (with_slots (store_of s₀) (pruned n xs ++ x ∷ ys)) w.form i inside
        ∙ ap (slot_bytes counted) (get_or_at (pruned n xs) x ys free i pruned_long)

    slot_goes : {t : Bytes} (r : Record) → x ≡ used r → pruned_slot n x ≡ free → t ≡ with_slot counted i free s → Freed n s₀ t (freed + 1) (xs ++ x ∷ []) ys
    unfolding put_slot
    slot_goes {t} r e f p =
        let st = with_slots (store_of s₀) (pruned n xs ++ x ∷ ys) in
        let freed-here : set (pruned n xs ++ x ∷ ys) i free ≡ pruned n (xs ++ x ∷ []) ++ ys =
        set_at (pruned n xs) x ys free i pruned_long ∙ sym (passed ∙ ap (λ y. pruned n xs ++ y ∷ ys) f)
        in
        let same : put_slot i free st ≡ with_slots (store_of s₀) (pruned n (xs ++ x ∷ []) ++ ys) = ap (with_slots (store_of s₀)) freed-here in
        record {
          form = subst StoreForm same (slot_put_form st w.form i free tt inside);
          bytes = p ∙ ap (with_slot counted i free) w.bytes ∙ sym (slot_put_bytes st w.form i free tt inside) ∙ ap store_bytes same;
          count =
              let more = ap free_slots (passed ∙ ap (λ y. pruned n xs ++ y ∷ ys) f) ∙ free_more (pruned n xs) r ys in
              let was = ap (λ y. free_slots (pruned n xs ++ y ∷ ys)) e in
              omega (arith, more, was, w.count);
        }

    slot_stays : {t : Bytes} → pruned_slot n x ≡ x → t ≡ s → Freed n s₀ t (freed + 0) (xs ++ x ∷ []) ys
    slot_stays f p =
        let same : pruned n xs ++ x ∷ ys ≡ pruned n (xs ++ x ∷ []) ++ ys = sym (passed ∙ ap (λ y. pruned n xs ++ y ∷ ys) f) in
        record {
          form = subst (λ l. StoreForm (with_slots (store_of s₀) l)) same w.form;
          bytes = p ∙ w.bytes ∙ ap (λ l. store_bytes (with_slots (store_of s₀) l)) same;
          count = omega (arith, ap free_slots same, w.count);
        }

    slot_passed : {t : Bytes} {k : ℕ} → Fate n x → t ≡ freed_slot n i s → k ≡ freed_count n i s → Freed n s₀ t (freed + k) (xs ++ x ∷ []) ys
    unfolding freed_slot freed_count
    slot_passed {t} (goes e r u f) p q =
        let g = ap (retired_in n) slot_held ∙ e in
        subst (λ m. Freed n s₀ t (freed + m) (xs ++ x ∷ []) ys) (sym (q ∙ rw g)) (slot_goes r u f (p ∙ rw g))
    slot_passed {t} (stays e f) p q =
        let g = ap (retired_in n) slot_held ∙ e in
        subst (λ m. Freed n s₀ t (freed + m) (xs ++ x ∷ []) ys) (sym (q ∙ rw g)) (slot_stays f (p ∙ rw g))

-- readable bytes have the right size, and two stores with as many slots have as many bytes
pub readable_size : {s : Bytes} → Readable s → size_right counted (length s) ≡ true
readable_size {s} w = rw w.back at (store_size (store_of s) w.form)

same_room : (st st' : Store) → st.form ≡ st'.form → StoreForm st → StoreForm st' → length st.slots ≡ length st'.slots → length (store_bytes st) ≡ length (store_bytes st')
same_room st st' o f g e =
    let a = size_ends st.form (length (store_bytes st)) (store_size st f) in
    let b = size_ends st'.form (length (store_bytes st')) (store_size st' g) in
    let n = store_room st f ∙ e ∙ sym (store_room st' g) in
    cc

-- at most one record is freed with a slot
count_few : (n i : ℕ) (s : Bytes) {k : ℕ} → k ≡ freed_count n i s → k ≤ 1
unfolding freed_count
count_few n i s e = go (retired_in n (slot_in counted i s)) e
  where
    go : (b : Bool) {k : ℕ} → k ≡ cond b 1 0 → k ≤ 1
    go true e = omega arith
    go false e = omega arith

module _ {n : ℕ} {s₀ s : Bytes} {m freed i : ℕ} (w : Freeing n s₀ s m freed i) where
  -- the store keeps its length
  pub freeing_same : length s ≡ length s₀
  freeing_same =
      let h = w.scan.holds in
      let st = with_slots (store_of s₀) (pruned n (take i (store_of s₀).slots) ++ drop i (store_of s₀).slots) in
      let many : length st.slots ≡ length (store_of s₀).slots = simp (length-append, length-map, length-take, length-drop) (omega (arith, w.scan.within, scan_many w.scan)) in
      ap length h.bytes ∙ same_room st (store_of s₀) refl h.form w.start.form many ∙ ap length w.start.back

  module _ (h : i < m) where
    pub freeing_within : SlotWithin counted i s
    freeing_within = rw freeing_same (slot_within (scan_slot w.scan h))

    pub freeing_next : {t : Bytes} {k : ℕ} → t ≡ freed_slot n i s → k ≡ freed_count n i s → Freeing n s₀ t m (freed + k) (i + 1)
    freeing_next {t} {k} p q =
        let inside = scan_inside w.scan h in
        let xs = take i (store_of s₀).slots in
        record {
          start = w.start;
          scan =
              scan_next w.scan h (Freed n s₀ t (freed + k))
              (slot_passed n s₀ xs (slot_no counted i s₀) (drop (i + 1) (store_of s₀).slots) i (length-take-le i (store_of s₀).slots (omega arith)) (scan_here w.scan h)
              (fate n (slot_no counted i s₀) (all_at (SlotForm counted) (store_of s₀).slots free i w.start.form.each inside) (λ y. w.start.whole i y inside)) p q);
          few = omega (arith, w.few, count_few n i s q);
        }

  pub freeing_done : m ≤ i → Frees n s₀ freed s
  unfolding emptied
  freeing_done h =
      let e = scan_end w.scan h in
      let all = append-nil (pruned n (store_of s₀).slots) in
      record {
        bytes = e.bytes ∙ ap (λ l. store_bytes (with_slots (store_of s₀) l)) all;
        count = omega (arith, e.count, ap free_slots all);
      }

-- before the first slot
pub freeing_starts : (n : ℕ) {m : ℕ} (s : Bytes) → Readable s → m ≡ room_of counted (length s) → Freeing n s s m 0 0
freeing_starts n s w e =
    record {
      start = w;
      scan = scan_start s (Freed n s s 0) (readable_size w) e (record { form = w.form; bytes = sym w.back; count = omega arith });
      few = omega arith;
    }

-- slot i by its retired-since, as the code tests it
module _ (n i : ℕ) (s : Bytes) where
  abbrev since : ℕ
  since = since_in (slot_in counted i s)

  abbrev Kept : Type 0
  Kept = (0 ≡ freed_count n i s) × (s ≡ freed_slot n i s)

  kept : retired_in n (slot_in counted i s) ≡ false → Kept
  unfolding freed_count freed_slot
  kept e = (rw e, rw e)

  pub kept_not_retired : since ≡ 0 → Kept
  unfolding retired_in
  kept_not_retired e = kept (rw (lt-leb 1 since (omega arith)))

  pub kept_retired_later : n < since → Kept
  unfolding retired_in
  kept_retired_later h = kept (rw (lt-leb since n h) (and_comm (leb 1 since) false))

  pub freed_retired : {t : Bytes} → (since ≡ 0 → ⊥) → since ≤ n → t ≡ with_slot counted i free s → (1 ≡ freed_count n i s) × (t ≡ freed_slot n i s)
  unfolding freed_count freed_slot retired_in
  freed_retired f h p =
      let e : leb 1 since && leb since n ≡ true = rw (le-leb 1 since (omega (arith, f)), le-leb since n h) in
      (rw e, rw e p)
