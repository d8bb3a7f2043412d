-- Stores there and back, slot i of a store, and writing one slot or the header: each slot has its own bytes, one after the other.
-- Assumes nothing.
use Prim.Native.Nat.{ℕ, zero, suc, ◌+◌, ◌*◌, ◌-◌, ◌<◌, ◌≤◌}
use native.Mathlib.Omega.{arith}
use mathlib.Core.Path.{◌≡◌, refl, ap, ap₂, sym, ◌∙◌}
use mathlib.Core.Bool.{true}
use mathlib.Core.List.{List, [], ◌∷◌, ◌++◌, append_assoc}
use lib.ListN.{length, get_or, take, drop, set, length-append, length-drop, length-set, take-append-drop, replicate, length-replicate, replicate-append-replicate}
use lib.Seq.{take_at, drop_at, drop-drop, split_at, set_split, length-take-le}
use Rattle.terms.specs.declared.Form.{Form}
use Rattle.terms.specs.declared.Form.TheVariants.{Plain as plain, Counted as counted}
use Rattle.terms.specs.Bits.{Bytes, Byte, All}
use Rattle.terms.specs.Fields.{le, slice, zero_bytes}
use Rattle.terms.specs.Records.{Record, Slot, Store, free, used}
use Rattle.terms.specs.Form.{top32, FormedAs}
use Rattle.terms.proofs.Lists.{all_take, all_drop, all_at}
use Rattle.terms.proofs.Fields.{field_below, length_le, slice_between}
use Rattle.fields.specs.Written.{written}
use Rattle.fields.proofs.Written.{written_between, written_inside}
use Rattle.layout.specs.Sizes.{slot_size, room_of, slot_at}
use Rattle.layout.specs.Headers.{header, size_right, header_of, header_bytes}
use Rattle.layout.specs.Slots.{record_of, slot_of, slot_bytes, SlotForm}
use Rattle.layout.specs.Stores.{slot_in, slots_of, slots_bytes, slots_as, store_in, store_bytes, slot_no, with_slot, with_since, with_oldest, with_latest, StoreForm, put_slot, put_bounds}
use Rattle.layout.proofs.Slots.{slot_said, slot_back, slot_form, length_slot, retired_put}
use Rattle.layout.proofs.Headers.{size_small, slot_before, slot_after, room_of_lem, size_right_of, size_says, length_header, oldest_put, latest_put, header_said, Accepted, accepted, header_back}

pub length_slots_bytes : (fm : Form) (xs : List Slot) → All (SlotForm fm) xs → length (slots_bytes fm xs) ≡ slot_size fm * length xs
length_slots_bytes fm [] h = omega arith
length_slots_bytes fm (x ∷ xs) h = simp length-append (omega (arith, length_slot fm x h.0, length_slots_bytes fm xs h.1, slot_after fm (length xs)))

-- slots that bytes can be are read as they were written
slots_said : (fm : Form) (xs : List Slot) → All (SlotForm fm) xs → slots_of fm (length xs) (slots_bytes fm xs) ≡ xs
slots_said fm [] h = refl
slots_said fm (x ∷ xs) h =
    rw (take_at (slot_bytes fm x) (slots_bytes fm xs) (slot_size fm) (length_slot fm x h.0), drop_at (slot_bytes fm x) (slots_bytes fm xs) (slot_size fm) (length_slot fm x h.0))
    (ap₂ ◌∷◌ (slot_said fm x h.0) (slots_said fm xs h.1))

pub length_slots : (fm : Form) (n : ℕ) (s : Bytes) → length (slots_of fm n s) ≡ n
length_slots fm zero s = refl
length_slots fm (suc n) s = ap suc (length_slots fm n (drop (slot_size fm) s))

-- bytes for n slots are those of the n slots that they are read as, which are in form
slots_back : (fm : Form) (n : ℕ) (s : Bytes) → length s ≡ slot_size fm * n → All Byte s → slots_bytes fm (slots_of fm n s) ≡ s
slots_back fm zero [] l h = refl
slots_back fm zero (x ∷ s) l h = absurd (omega arith)
slots_back fm (suc n) s l h =
    ap₂ ◌++◌ (slot_back fm (take (slot_size fm) s) (length-take-le (slot_size fm) s (omega (arith, slot_after fm n))) (all_take Byte (slot_size fm) s h))
    (slots_back fm n (drop (slot_size fm) s) (simp length-drop (omega (arith, slot_after fm n))) (all_drop Byte (slot_size fm) s h))
    ∙ take-append-drop (slot_size fm) s

slots_form : (fm : Form) (n : ℕ) (s : Bytes) → length s ≡ slot_size fm * n → All Byte s → All (SlotForm fm) (slots_of fm n s)
slots_form fm zero s l h = tt
slots_form fm (suc n) s l h = (
  slot_form fm (take (slot_size fm) s) (length-take-le (slot_size fm) s (omega (arith, slot_after fm n))) (all_take Byte (slot_size fm) s h),
  slots_form fm n (drop (slot_size fm) s) (simp length-drop (omega (arith, slot_after fm n))) (all_drop Byte (slot_size fm) s h),
)

-- slot i
slots_at : (fm : Form) (n : ℕ) (s : Bytes) (i : ℕ) → i < n → get_or (slots_of fm n s) i free ≡ slot_of (slice (slot_size fm * i) (slot_size fm) s)
unfolding slice
slots_at fm zero s i h = absurd (omega arith)
slots_at fm (suc n) s zero h = let e : 0 ≡ slot_size fm * 0 = omega arith in ap (λ k. slot_of (take (slot_size fm) (drop k s))) e
slots_at fm (suc n) s (suc i) h =
    let e = slot_after fm i in
    slots_at fm n (drop (slot_size fm) s) i (omega arith) ∙ ap (λ r. slot_of (take (slot_size fm) r)) (drop-drop (slot_size fm * i) (slot_size fm) s ∙ ap (λ k. drop k s) e)

module _ (st : Store) (f : StoreForm st) where
  -- the bytes of a store are accepted, and read as the store
  pub store_accepted : header_of st.form (store_bytes st) ≡ header (length st.slots) st.oldest st.latest
  unfolding store_bytes
  store_accepted =
      header_said st.form (store_bytes st) (length st.slots) st.oldest st.latest (slots_bytes st.form st.slots) refl (length_slots_bytes st.form st.slots f.each)
      f.some f.fits f.ordered f.number

  is_accepted_lem : Accepted st.form (store_bytes st) (length st.slots) st.oldest st.latest
  is_accepted_lem = accepted (store_bytes st) (length st.slots) st.oldest st.latest store_accepted

  -- they have the right size, and room for its slots
  pub store_size : size_right st.form (length (store_bytes st)) ≡ true
  store_size = size_right_of st.form (length (store_bytes st)) (length st.slots) is_accepted_lem.size f.some f.fits

  pub store_room : room_of st.form (length (store_bytes st)) ≡ length st.slots
  store_room = room_of_lem st.form (length (store_bytes st)) (length st.slots) is_accepted_lem.size

  slots_after : drop 24 (store_bytes st) ≡ slots_bytes st.form st.slots
  unfolding store_bytes
  slots_after = drop_at (header_bytes st.form (length st.slots) st.oldest st.latest) (slots_bytes st.form st.slots) 24 (length_header st.form _ _ _)

  pub store_said : store_in st.form (store_bytes st) ≡ st
  unfolding slots_as
  store_said = rw (is_accepted_lem.oldest, is_accepted_lem.latest, store_room, slots_after, slots_said st.form st.slots f.each)

-- accepted bytes are those of the store that they are read as, which is in form
module _ {fm : Form} (s : Bytes) (n o l : ℕ) (h : All Byte s) (a : Accepted fm s n o l) where
  slots_long : length (drop 24 s) ≡ slot_size fm * n
  slots_long = let k = a.size in simp length-drop (omega arith)

  pub slot_count : length (store_in fm s).slots ≡ n
  unfolding slots_as
  slot_count = length_slots fm (room_of fm (length s)) (drop 24 s) ∙ room_of_lem fm (length s) n a.size

  pub store_back : store_bytes (store_in fm s) ≡ s
  unfolding store_bytes slots_as
  store_back =
      rw (a.oldest, a.latest, room_of_lem fm (length s) n a.size, length_slots fm n (drop 24 s), header_back s n o l h a, slots_back fm n (drop 24 s) slots_long h24)
      (take-append-drop 24 s)
    where
      h24 : All Byte (drop 24 s)
      h24 = all_drop Byte 24 s h

  pub store_form : StoreForm (store_in fm s)
  unfolding slots_as
  store_form =
      let z = a.size in
      record {
        some = rw slot_count a.some;
        fits = rw slot_count a.fits;
        ordered = rw (a.oldest, a.latest) a.ordered;
        number = omega (arith, field_below 16 4 s (omega arith) h);
        each = rw (room_of_lem fm (length s) n z) (slots_form fm n (drop 24 s) slots_long (all_drop Byte 24 s h));
      }

-- free slots are zero bytes
free_bytes : (fm : Form) (n : ℕ) → slots_bytes fm (replicate n free) ≡ zero_bytes (slot_size fm * n)
unfolding slot_bytes zero_bytes
free_bytes plain zero = refl
free_bytes counted zero = refl
free_bytes fm (suc n) =
    ap (zero_bytes (slot_size fm) ++◌) (free_bytes fm n) ∙ replicate-append-replicate (slot_size fm) (slot_size fm * n) 0 ∙ ap zero_bytes (slot_after fm n)

zeros_from : (m n : ℕ) → drop m (zero_bytes (m + n)) ≡ zero_bytes n
unfolding zero_bytes
zeros_from m n =
    ap (drop m) (sym (replicate-append-replicate m n 0)) ∙ drop_at (replicate m 0) (replicate n 0) m (length-replicate m 0)

-- so a header over zero bytes is a store of free slots
pub fresh_bytes : (fm : Form) (m o l : ℕ) → size_right fm m ≡ true →
    written 0 (header_bytes fm (room_of fm m) o l) (zero_bytes m) ≡ store_bytes (record { form = fm; oldest = o; latest = l; slots = replicate (room_of fm m) free })
unfolding written store_bytes
fresh_bytes fm m o l e =
    let n = room_of fm m in
    let head : 0 + length (header_bytes fm n o l) ≡ 24 = omega (arith, length_header fm n o l) in
    rw (head, length-replicate n free, free_bytes fm n)
    (ap (λ k. header_bytes fm n o l ++ drop 24 (zero_bytes k)) (size_says fm m e).0 ∙ ap (header_bytes fm n o l ++◌) (zeros_from 24 (slot_size fm * n)))

-- slot i of bytes is what its bytes are read as
pub slot_at_lem : (fm : Form) (s : Bytes) (i : ℕ) → i < room_of fm (length s) → slot_no fm i s ≡ slot_of (slot_in fm i s)
unfolding slots_as slot_in slice
slot_at_lem fm s i h = slots_at fm (room_of fm (length s)) (drop 24 s) i h ∙ ap (λ r. slot_of (take (slot_size fm) r)) (drop-drop (slot_size fm * i) 24 s)

slots_append : (fm : Form) (xs ys : List Slot) → slots_bytes fm (xs ++ ys) ≡ slots_bytes fm xs ++ slots_bytes fm ys
slots_append fm [] ys = refl
slots_append fm (x ∷ xs) ys = ap (slot_bytes fm x ++◌) (slots_append fm xs ys) ∙ sym (append_assoc (slot_bytes fm x) (slots_bytes fm xs) (slots_bytes fm ys))

all_set : (fm : Form) (xs : List Slot) (i : ℕ) (x : Slot) → All (SlotForm fm) xs → SlotForm fm x → All (SlotForm fm) (set xs i x)
all_set fm [] i x h k = tt
all_set fm (y ∷ xs) zero x h k = (k, h.1)
all_set fm (y ∷ xs) (suc i) x h k = (h.0, all_set fm xs i x h.1 k)

-- after 24 bytes: what stands before slot i, slot i, and what stands after it
module _ (fm : Form) (p : Bytes) (xs : List Slot) (i : ℕ) (e : length p ≡ 24) (h : All (SlotForm fm) xs) (l : i < length xs) where
  abbrev front : Bytes
  front = p ++ slots_bytes fm (take i xs)

  front_long : length front ≡ 24 + slot_size fm * i
  front_long =
      let k = length_slots_bytes fm (take i xs) (all_take (SlotForm fm) i xs h) ∙ ap (slot_size fm *◌) (length-take-le i xs (omega arith)) in
      simp length-append (omega arith)

  abbrev rest : Bytes
  rest = slots_bytes fm (drop (suc i) xs)

  slots_split : p ++ slots_bytes fm xs ≡ front ++ (slot_bytes fm (get_or xs i free) ++ rest)
  slots_split =
      ap (λ z. p ++ slots_bytes fm z) (split_at xs i free l)
      ∙ ap (p ++◌) (slots_append fm (take i xs) (get_or xs i free ∷ drop (suc i) xs))
      ∙ sym (append_assoc p (slots_bytes fm (take i xs)) (slot_bytes fm (get_or xs i free) ++ rest))

  slot_long : length (slot_bytes fm (get_or xs i free)) ≡ slot_size fm
  slot_long = length_slot fm (get_or xs i free) (all_at (SlotForm fm) xs free i h l)

  slots_put : (x : Slot) → SlotForm fm x → p ++ slots_bytes fm (set xs i x) ≡ written (24 + slot_size fm * i) (slot_bytes fm x) (p ++ slots_bytes fm xs)
  slots_put x k =
      ap (λ z. p ++ slots_bytes fm z) (set_split xs i x l)
      ∙ ap (p ++◌) (slots_append fm (take i xs) (x ∷ drop (suc i) xs))
      ∙ sym (append_assoc p (slots_bytes fm (take i xs)) (slot_bytes fm x ++ rest))
      ∙ sym (written_between front (slot_bytes fm (get_or xs i free)) rest (slot_bytes fm x) (24 + slot_size fm * i) front_long (length_slot fm x k ∙ sym slot_long))
      ∙ ap (written (24 + slot_size fm * i) (slot_bytes fm x)) (sym slots_split)

  slots_in_lem : slot_in fm i (p ++ slots_bytes fm xs) ≡ slot_bytes fm (get_or xs i free)
  unfolding slot_in
  slots_in_lem = ap (slice (24 + slot_size fm * i) (slot_size fm)) slots_split ∙ slice_between front (slot_bytes fm (get_or xs i free)) rest (24 + slot_size fm * i) (slot_size fm) front_long slot_long

formed_same : (fm : Form) (r : Record) (n : ℕ) → FormedAs fm r → FormedAs fm (record_of r.place r.version n r.body r.counts)
formed_same plain r n a = a
formed_same counted r n a = tt

-- another slot at i, another oldest and latest: the store stays in form, and its bytes change there and nowhere else
module _ (st : Store) (f : StoreForm st) where
  module _ (i : ℕ) (x : Slot) (k : SlotForm st.form x) (l : i < length st.slots) where
    pub slot_put_form : StoreForm (put_slot i x st)
    unfolding put_slot
    slot_put_form =
        record {
          some = rw (length-set st.slots i x) f.some;
          fits = rw (length-set st.slots i x) f.fits;
          ordered = f.ordered;
          number = f.number;
          each = all_set st.form st.slots i x f.each k;
        }

    pub slot_put_bytes : store_bytes (put_slot i x st) ≡ with_slot st.form i x (store_bytes st)
    unfolding put_slot store_bytes
    slot_put_bytes =
        rw (length-set st.slots i x)
        (slots_put st.form (header_bytes st.form (length st.slots) st.oldest st.latest) st.slots i (length_header st.form _ _ _) f.each l x k)

  -- the bytes of slot i
  pub slot_in_lem : (i : ℕ) → i < length st.slots → slot_in st.form i (store_bytes st) ≡ slot_bytes st.form (get_or st.slots i free)
  unfolding store_bytes
  slot_in_lem i l = slots_in_lem st.form (header_bytes st.form (length st.slots) st.oldest st.latest) st.slots i (length_header st.form _ _ _) f.each l

  -- another retired-since for the record in slot i: four bytes change
  pub retired_put_bytes : (i : ℕ) (r : Record) (n : ℕ) → i < length st.slots → get_or st.slots i free ≡ used r → SlotForm st.form (used r) → n ≤ top32 →
      store_bytes (put_slot i (used (record_of r.place r.version n r.body r.counts)) st) ≡ with_since st.form i n (store_bytes st)
  unfolding slot_bytes slot_in
  retired_put_bytes i r n l e h k =
      let z = (is_accepted_lem st f).size in
      slot_put_bytes i (used (record_of r.place r.version n r.body r.counts)) ((record { short = h.0.short; versioned = h.0.versioned; number = k; body = h.0.body; counts = h.0.counts }), formed_same st.form r n h.1) l
      ∙ ap (λ y. written (24 + slot_size st.form * i) y (store_bytes st)) (retired_put st.form r n ∙ ap (written 44 (le 4 n)) (sym (slot_in_lem i l ∙ ap (slot_bytes st.form) e)))
      ∙ sym (written_inside (24 + slot_size st.form * i) (slot_size st.form) 44 (le 4 n) (store_bytes st) (omega (arith, slot_before st.form i (length st.slots) l)) (omega (arith, length_le 4 n, size_small st.form)))

-- another oldest: its four bytes change, and nothing else
pub oldest_put_bytes : (st : Store) (o : ℕ) → store_bytes (put_bounds o st.latest st) ≡ with_oldest o (store_bytes st)
unfolding put_bounds store_bytes
oldest_put_bytes st o = oldest_put st.form (length st.slots) st.oldest st.latest o (slots_bytes st.form st.slots)

pub latest_put_bytes : (st : Store) (l : ℕ) → store_bytes (put_bounds st.oldest l st) ≡ with_latest l (store_bytes st)
unfolding put_bounds store_bytes
latest_put_bytes st l = latest_put st.form (length st.slots) st.oldest st.latest l (slots_bytes st.form st.slots)
