-- The law of a scan, a loop over the slots from the first or any other to the last: what holds of the slots passed and of those to come goes
-- from slot to slot, and at the end it holds of all. Assumes nothing.
use Prim.Native.Nat.{ℕ, ◌+◌, ◌<◌, ◌≤◌}
use native.Mathlib.Omega.{arith}
use native.Mathlib.Numerals.{add-one}
use mathlib.Core.Path.{◌≡◌, sym, ap, ◌∙◌, subst}
use mathlib.Core.Bool.{true}
use mathlib.Core.List.{List, [], ◌∷◌, ◌++◌}
use lib.ListN.{length, take, drop, length-append, drop_of_length-le}
use lib.Seq.{take-suc, take_all, drop-cons, length-take-le}
use borrow.Author.Count.{below_more}
use Rattle.terms.specs.declared.Form.{Form}
use Rattle.terms.specs.Bits.{Bytes}
use Rattle.terms.specs.Records.{Slot, free}
use Rattle.terms.specs.Form.{most_slots}
use Rattle.layout.specs.Sizes.{room_of, slot_at}
use Rattle.layout.specs.Headers.{size_right}
use Rattle.layout.specs.Stores.{store_in, slot_no, Has}
use Rattle.layout.proofs.Headers.{size_says, size_ends}
use Rattle.store.proofs.Slots.{slots_many}

-- at slot i of n, of the store s: the slots passed, and those to come, are as P says
pub record Scan (fm : Form) (s : Bytes) (P : List Slot → List Slot → Type 0) (n i : ℕ) : Type 0 where
  pub size : size_right fm (length s) ≡ true
  pub room : n ≡ room_of fm (length s)
  pub ends : length s ≡ slot_at fm n
  pub small : n ≤ most_slots
  pub within : i ≤ n
  pub holds : P (take i (store_in fm s).slots) (drop i (store_in fm s).slots)

-- before slot i, where the scan begins
pub scan_from : {fm : Form} {n i : ℕ} (s : Bytes) (P : List Slot → List Slot → Type 0) → size_right fm (length s) ≡ true → n ≡ room_of fm (length s) → i ≤ n →
    P (take i (store_in fm s).slots) (drop i (store_in fm s).slots) → Scan fm s P n i
scan_from {fm} s P e m l p =
    record {
      size = e;
      room = m;
      ends = size_ends fm (length s) e ∙ ap (slot_at fm) (sym m);
      small = omega (arith, size_says fm (length s) e);
      within = l;
      holds = p;
    }

-- before the first slot
pub scan_start : {fm : Form} {n : ℕ} (s : Bytes) (P : List Slot → List Slot → Type 0) → size_right fm (length s) ≡ true → n ≡ room_of fm (length s) → P [] (store_in fm s).slots → Scan fm s P n 0
scan_start s P e m p = scan_from s P e m (omega arith) p

module _ {fm : Form} {s : Bytes} {P : List Slot → List Slot → Type 0} {n i : ℕ} (w : Scan fm s P n i) where
  pub scan_many : length (store_in fm s).slots ≡ n
  scan_many = slots_many fm s ∙ sym w.room

  pub scan_passed : length (take i (store_in fm s).slots) ≡ i
  scan_passed = length-take-le i (store_in fm s).slots (omega (arith, w.within, scan_many))

  -- the slot that it is at is the first of those to come, and once it is passed the last of those passed
  module _ (h : i < n) where
    pub scan_slot : Has fm s i
    scan_slot = record { size = w.size; inside = omega (arith, w.room) }

    pub scan_inside : i < length (store_in fm s).slots
    scan_inside = omega (arith, scan_many)

    pub scan_here : P (take i (store_in fm s).slots) (slot_no fm i s ∷ drop (i + 1) (store_in fm s).slots)
    scan_here =
        subst (P (take i (store_in fm s).slots))
        (drop-cons (store_in fm s).slots i free scan_inside ∙ ap (λ k. slot_no fm i s ∷ drop k (store_in fm s).slots) (sym (add-one i)))
        w.holds

    pub scan_next : (Q : List Slot → List Slot → Type 0) → Q (take i (store_in fm s).slots ++ slot_no fm i s ∷ []) (drop (i + 1) (store_in fm s).slots) → Scan fm s Q n (i + 1)
    scan_next Q q =
        record {
          size = w.size;
          room = w.room;
          ends = w.ends;
          small = w.small;
          within = omega arith;
          holds =
              subst (λ xs. Q xs (drop (i + 1) (store_in fm s).slots))
              (sym (ap (λ k. take k (store_in fm s).slots) (add-one i) ∙ take-suc (store_in fm s).slots i free scan_inside)) q;
        }

  -- after the last slot
  pub scan_end : n ≤ i → P (store_in fm s).slots []
  scan_end h =
      let l : length (store_in fm s).slots ≤ i = omega (arith, scan_many) in
      subst (P (store_in fm s).slots) (drop_of_length-le (store_in fm s).slots {i = i} l)
      (subst (λ xs. P xs (drop i (store_in fm s).slots)) (take_all i (store_in fm s).slots l) w.holds)

-- a scan of which each slot passed is as Q says
abbrev pub Each : Form → Bytes → (Slot → Type 0) → List Slot → List Slot → Type 0
Each fm s Q xs ys = (j : ℕ) → j < length xs → Q (slot_no fm j s)

pub each_from : {fm : Form} {n i : ℕ} (s : Bytes) (Q : Slot → Type 0) → size_right fm (length s) ≡ true → n ≡ room_of fm (length s) → i ≤ n → ((j : ℕ) → j < i → Q (slot_no fm j s)) →
    Scan fm s (Each fm s Q) n i
each_from {fm} {n} {i} s Q e m l f =
    let k = length-take-le i (store_in fm s).slots (omega (arith, slots_many fm s)) in
    scan_from s (Each fm s Q) e m l (λ j h. f j (omega arith))

module _ {fm : Form} {s : Bytes} (Q : Slot → Type 0) {n i : ℕ} (w : Scan fm s (Each fm s Q) n i) where
  pub each_passed : (j : ℕ) → j < i → Q (slot_no fm j s)
  each_passed j h = w.holds j (omega (arith, scan_passed w))

  pub each_next : i < n → Q (slot_no fm i s) → Scan fm s (Each fm s Q) n (i + 1)
  each_next h q =
      let long = length-append (take i (store_in fm s).slots) (slot_no fm i s ∷ []) in
      scan_next w h (Each fm s Q) (λ j k. below_more (λ m. Q (slot_no fm m s)) i each_passed q j (omega (arith, long, scan_passed w)))
