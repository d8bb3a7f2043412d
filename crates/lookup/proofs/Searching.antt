-- A search from slot to slot: what no earlier slot matched is found from here on. Assumes nothing.
use Prim.Native.Nat.{ℕ, ◌+◌, ◌-◌, ◌<◌, ◌≤◌}
use native.Mathlib.Omega.{arith}
use mathlib.Core.Path.{◌≡◌, refl, ap, sym, ◌∙◌}
use mathlib.Core.Bool.{true, false, false≢true, true≢false}
use mathlib.Core.List.{List, ◌∷◌}
use lib.ListN.{length, get_or, take, drop, length-take}
use lib.Seq.{get_or-drop, get_or-take}
use borrow.Author.Count.{below_more}
use Rattle.terms.specs.declared.Form.{Form}
use Rattle.terms.specs.Bits.{Bytes, Byte, All, Place, pack, bits}
use Rattle.terms.specs.Fields.{field, slice}
use Rattle.terms.specs.Records.{Record, Slot, free, used, spoiled}
use Rattle.terms.proofs.Lists.{all_of}
use Rattle.terms.proofs.Places.{length_bits}
use Rattle.terms.proofs.Fields.{part_slice}
use Rattle.meaning.specs.Store.{find, is_node}
use Rattle.layout.specs.Sizes.{slot_size, count_at, bits_at, version_at, room_of, slot_at}
use Rattle.layout.specs.Headers.{size_right}
use Rattle.layout.specs.Slots.{slot_of}
use Rattle.layout.specs.Stores.{slot_in, store_in, slot_no, SlotWithin}
use Rattle.layout.proofs.Headers.{size_small}
use Rattle.store.proofs.Slots.{slot_long, slot_bytes_lem, slot_within, slot_is, field_at}
use Rattle.store.proofs.Scans.{Scan, scan_start, scan_many, scan_slot, scan_here, scan_next, scan_end}
use Rattle.lookup.specs.Lookup.{is_used, FoundIn}
use Rattle.std.specs.Prelude.{Some, None}
use Rattle.lookup.proofs.Matching.{NoNode, off_version, off_count, off_byte, is_here}

-- the search past a slot that does not match
pub past : (v : ℕ) (p : Place) (x : Slot) (s : List Slot) → ((r : Record) → x ≡ used r → is_node v p r ≡ false) → find v p (x ∷ s) ≡ find v p s
past v p free s f = refl
past v p (used r) s f = rw (f r refl)
past v p (spoiled y) s f = refl

pub used_or : (x : Slot) → is_used x ≡ true → (r : Record) × (x ≡ used r)
used_or free e = absurd (false≢true e)
used_or (used r) e = (r, refl)
used_or (spoiled y) e = absurd (false≢true e)

pub unused : (x : Slot) (r : Record) → is_used x ≡ false → x ≡ used r → {A : Type 0} → A
unused x r e k = absurd (true≢false (sym (ap is_used k) ∙ e))

-- what is found is found among the slots to come
abbrev Ahead : Form → Bytes → ℕ → Place → List Slot → List Slot → Type 0
Ahead fm s v p xs ys = find v p (store_in fm s).slots ≡ find v p ys

-- at slot i: no slot before it matches
pub record Slots (fm : Form) (s : Bytes) (v : ℕ) (b : Bytes) (count n i : ℕ) : Type 0 where
  pub scan : Scan fm s (Ahead fm s v (take count (bits b))) n i
  pub bytes : All Byte s
  pub short : count ≤ 256
  pub trimmed : b ≡ pack 32 (take count (bits b))
  pub long : length (take count (bits b)) ≡ count

-- and its version, its bit count and the first k bytes of its bits agree
pub record Agrees (fm : Form) (s : Bytes) (v : ℕ) (b : Bytes) (count n i at k : ℕ) : Type 0 where
  pub slots : Slots fm s v b count n i
  pub inside : i < n
  pub here : at ≡ slot_at fm i
  pub whole : SlotWithin fm i s
  pub fits : at + 120 ≤ length s
  pub within : k ≤ 32
  pub version : field (at + version_at) 4 s ≡ v
  pub bits : field (at + count_at) 2 s ≡ count
  pub same : (j : ℕ) → j < k → get_or s (at + bits_at + j) 0 ≡ get_or b j 0

slot_byte : (fm : Form) (s : Bytes) (i j : ℕ) → j < slot_size fm → get_or s (slot_at fm i + j) 0 ≡ get_or (slot_in fm i s) j 0
unfolding slot_in slice
slot_byte fm s i j h = sym (get_or-take (slot_size fm) (drop (slot_at fm i) s) j 0 h ∙ get_or-drop (slot_at fm i) s j 0)

module _ {fm : Form} {s : Bytes} {v : ℕ} {b : Bytes} {count n i : ℕ} (w : Slots fm s v b count n i) where
  long : i < n → length (slot_in fm i s) ≡ slot_size fm
  long h = slot_long fm i s (slot_within (scan_slot w.scan h))

  -- a slot that does not match: the next one
  next : i < n → NoNode (slot_in fm i s) v (take count (bits b)) → Slots fm s v b count n (i + 1)
  next h f = record {
    scan =
        scan_next w.scan h (Ahead fm s v (take count (bits b)))
        (scan_here w.scan h ∙ past v (take count (bits b)) (slot_no fm i s) (drop (i + 1) (store_in fm s).slots) (λ r k. f r (sym (slot_is (scan_slot w.scan h)) ∙ k)));
    bytes = w.bytes;
    short = w.short;
    trimmed = w.trimmed;
    long = w.long;
  }

  pub other_version : i < n → (at : ℕ) → at ≡ slot_at fm i → (field (at + version_at) 4 s ≡ v → ⊥) → Slots fm s v b count n (i + 1)
  other_version h at e f =
      next h (off_version fm (slot_in fm i s) (long h) (slot_bytes_lem fm i s w.bytes) v (take count (bits b)) (λ k. f (field_at fm i version_at 4 s e (omega arith) ∙ k)))

  pub other_count : i < n → (at : ℕ) → at ≡ slot_at fm i → (field (at + count_at) 2 s ≡ count → ⊥) → Slots fm s v b count n (i + 1)
  other_count h at e f =
      next h (off_count fm (slot_in fm i s) (long h) (slot_bytes_lem fm i s w.bytes) v (take count (bits b)) (λ k. f (field_at fm i count_at 2 s e (omega arith) ∙ k ∙ w.long)))

  pub none_left : n ≤ i → FoundIn (store_in fm s).slots v (take count (bits b)) None
  none_left h = scan_end w.scan h

-- before the first slot
pub from_start : {fm : Form} (s : Bytes) (v : ℕ) (b : Bytes) (count : ℕ) → {n : ℕ} → size_right fm (length s) ≡ true → n ≡ room_of fm (length s) → ((i : ℕ) → get_or s i 0 < 256) → count ≤ 256 →
    length b ≡ 32 → b ≡ pack 32 (take count (bits b)) → Slots fm s v b count n 0
from_start {fm} s v b count e m h short w t =
    record {
      scan = scan_start s (Ahead fm s v (take count (bits b))) e m refl;
      bytes = all_of Byte s 0 (λ i _. h i);
      short = short;
      trimmed = t;
      long = simp (length-take, length_bits, w) (omega arith);
    }

module _ {fm : Form} {s : Bytes} {v : ℕ} {b : Bytes} {count n i at k : ℕ} (w : Agrees fm s v b count n i at k) where
  -- one byte more that agrees
  pub byte_more : k < 32 → get_or s (at + bits_at + k) 0 ≡ get_or b k 0 → Agrees fm s v b count n i at (k + 1)
  byte_more h e = record {
    slots = w.slots;
    inside = w.inside;
    here = w.here;
    whole = w.whole;
    fits = w.fits;
    within = omega arith;
    version = w.version;
    bits = w.bits;
    same = below_more _ _ w.same e;
  }

  byte_here : (j : ℕ) → j < 32 → get_or s (at + bits_at + j) 0 ≡ get_or (slot_in fm i s) (bits_at + j) 0
  byte_here j h =
      let e : at + bits_at + j ≡ slot_at fm i + (bits_at + j) = omega (arith, w.here) in
      ap (λ q. get_or s q 0) e ∙ slot_byte fm s i (bits_at + j) (omega (arith, size_small fm))

  -- a byte that differs: the next slot
  pub byte_off : k < 32 → (get_or s (at + bits_at + k) 0 ≡ get_or b k 0 → ⊥) → Slots fm s v b count n (i + 1)
  byte_off h f =
      next w.slots w.inside
      (off_byte fm (slot_in fm i s) (long w.slots w.inside) (slot_bytes_lem fm i s w.slots.bytes) v (take count (bits b)) k h
      (λ e. f (byte_here k h ∙ e ∙ ap (λ y. get_or y k 0) (sym w.slots.trimmed))))

  its_slot : {e : ℕ} → e ≡ at + slot_size fm → take (e - at) (drop at s) ≡ slot_in fm i s
  unfolding slot_in
  its_slot q = rw (q, part_slice at (slot_size fm) s, w.here)

  -- all agrees, and the slot holds a record: it is found
  pub found_here : {e : ℕ} → e ≡ at + slot_size fm → 32 ≤ k → is_used (slot_of (take (e - at) (drop at s))) ≡ true → FoundIn (store_in fm s).slots v (take count (bits b)) (Some i)
  found_here q h t =
      let x = slot_in fm i s in
      let u = used_or (slot_of x) (ap (λ y. is_used (slot_of y)) (sym (its_slot q)) ∙ t) in
      let r = u.0 in
      let p = take count (bits b) in
      let f = w.slots in
      let node : is_node v p r ≡ true =
      is_here fm x (long f w.inside) (slot_bytes_lem fm i s f.bytes) v p (omega (arith, f.short, f.long))
      (sym (field_at fm i version_at 4 s w.here (omega arith)) ∙ w.version)
      (sym (field_at fm i count_at 2 s w.here (omega arith)) ∙ w.bits ∙ sym f.long)
      (λ j l. sym (byte_here j l) ∙ w.same j (omega arith) ∙ ap (λ y. get_or y j 0) f.trimmed)
      r u.1
      in
      let has : slot_no fm i s ≡ used r = slot_is (scan_slot f.scan w.inside) ∙ u.1 in
      (omega (arith, scan_many f.scan, w.inside), (r, has, scan_here f.scan w.inside ∙ rw (has, node)))

  -- or it does not: the next slot
  pub spoiled_here : {e : ℕ} → e ≡ at + slot_size fm → is_used (slot_of (take (e - at) (drop at s))) ≡ false → Slots fm s v b count n (i + 1)
  spoiled_here q t = next w.slots w.inside (λ r e. unused (slot_of (slot_in fm i s)) r (ap (λ y. is_used (slot_of y)) (sym (its_slot q)) ∙ t) e)
