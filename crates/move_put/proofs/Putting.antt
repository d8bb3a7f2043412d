-- Writing from slot to slot: before slot i the target has the new header and slots, from it on its old bytes. Assumes nothing.
use Prim.Native.Nat.{ℕ, zero, suc, ◌+◌, ◌*◌, ◌-◌, ◌<◌, ◌≤◌}
use native.Mathlib.Omega.{arith}
use mathlib.Core.Path.{◌≡◌, refl, ap, ap₂, sym, ◌∙◌, subst}
use mathlib.Core.Bool.{true}
use mathlib.Core.List.{List, [], ◌∷◌, ◌++◌, append-nil, append_assoc}
use lib.ListN.{length, get_or, take, drop, length-append, length-take, length-drop, take-append-drop, drop_of_length-le}
use lib.Seq.{take_at, drop_at, drop-drop, take_all, length-take-le}
use Rattle.terms.specs.declared.Form.{Form}
use Rattle.terms.specs.declared.Form.TheVariants.{Plain as plain, Counted as counted}
use Rattle.terms.specs.Bits.{Bytes, All}
use Rattle.terms.specs.Records.{Tally, Slot, free, used, spoiled, Store}
use Rattle.terms.proofs.Lists.{all_at, all_take}
use Rattle.fields.specs.Written.{written}
use Rattle.fields.proofs.Written.{written_between, length_written}
use Rattle.layout.specs.Sizes.{most_slots, slot_size, room_of, slot_at}
use Rattle.layout.specs.Headers.{header_bytes, size_right}
use Rattle.layout.specs.Slots.{slot_bytes, SlotForm}
use Rattle.layout.specs.Stores.{slots_bytes, store_in, store_bytes, slot_no, Has, SlotWithin, with_slot}
use Rattle.layout.proofs.Slots.{length_slot}
use Rattle.layout.proofs.Headers.{length_header, size_says, size_least, size_ends, slot_before, slot_after}
use Rattle.layout.proofs.Stores.{length_slots_bytes}
use Rattle.store.proofs.Slots.{slots_many}
use Rattle.move_rules.specs.Moves.{SameRoom}
use Rattle.move_put.specs.Put.{tally_at, tallied, tallied_from, tallied_as, Movable}

length_tallied : (t : List ℕ) (i : ℕ) (xs : List Slot) → length (tallied_from t i xs) ≡ length xs
length_tallied t i [] = refl
length_tallied t i (x ∷ xs) = ap suc (length_tallied t (suc i) xs)

tallied_at : (t : List ℕ) (k : ℕ) (xs : List Slot) (i : ℕ) → i < length xs → get_or (tallied_from t k xs) i free ≡ tallied (tally_at t (k + i)) (get_or xs i free)
tallied_at t k [] i h = absurd (omega arith)
tallied_at t k (x ∷ xs) zero h = let e : k ≡ k + 0 = omega arith in ap (λ m. tallied (tally_at t m) x) e
tallied_at t k (x ∷ xs) (suc i) h =
    let e : suc k + i ≡ k + suc i = omega arith in
    tallied_at t (suc k) xs i (omega arith) ∙ ap (λ m. tallied (tally_at t m) (get_or xs i free)) e

-- one slot more
slots_more : (fm : Form) (xs : List Slot) (i : ℕ) → i < length xs → slots_bytes fm (take (suc i) xs) ≡ slots_bytes fm (take i xs) ++ slot_bytes fm (get_or xs i free)
slots_more fm [] i h = absurd (omega arith)
slots_more fm (x ∷ xs) zero h = append-nil (slot_bytes fm x)
slots_more fm (x ∷ xs) (suc i) h =
    ap (slot_bytes fm x ++◌) (slots_more fm xs i (omega arith)) ∙ sym (append_assoc (slot_bytes fm x) (slots_bytes fm (take i xs)) (slot_bytes fm (get_or xs i free)))

-- where slots begin
slots_up : (fm : Form) (i n : ℕ) → i ≤ n → slot_at fm i ≤ slot_at fm n
slots_up plain i n h = omega arith
slots_up counted i n h = omega arith

slot_next : (fm : Form) (i : ℕ) → slot_at fm i + slot_size fm ≡ slot_at fm (i + 1)
slot_next fm i = let z : suc i ≡ i + 1 = omega arith in let e = slot_after fm i ∙ ap (slot_size fm *◌) z in omega arith

-- bytes written behind a front that was written
front_grows : (p f old : Bytes) (k m : ℕ) → length p ≡ k → length f ≡ m → k + m ≤ length old → written k f (p ++ drop k old) ≡ (p ++ f) ++ drop (k + m) old
front_grows p f old k m e l h =
    let part : length f ≡ length (take m (drop k old)) = l ∙ sym (length-take-le m (drop k old) (simp length-drop (omega arith))) in
    let cut : drop k old ≡ take m (drop k old) ++ drop (k + m) old =
    sym (take-append-drop m (drop k old)) ∙ ap (take m (drop k old) ++◌) (drop-drop m k old)
    in
    ap (λ r. written k f (p ++ r)) cut
    ∙ written_between p (take m (drop k old)) (drop (k + m) old) f k e part
    ∙ sym (append_assoc p f (drop (k + m) old))

module _ (from to : Form) (s : Bytes) (t : List ℕ) (old : Bytes) where
  -- the slots as they are to be written
  abbrev news : List Slot
  news = tallied_from t 0 (store_in from s).slots

  -- the header and the first i slots
  abbrev front : ℕ → Bytes
  front i = header_bytes to (length (store_in from s).slots) (store_in from s).oldest (store_in from s).latest ++ slots_bytes to (take i news)

  -- at slot i of n
  pub record Putting (cur : Bytes) (n i : ℕ) : Type 0 where
    pub able : Movable from to s t old
    pub many : n ≡ room_of from (length s)
    pub within : i ≤ n
    pub bytes : cur ≡ front i ++ drop (slot_at to i) old

module _ {from to : Form} {s : Bytes} {t : List ℕ} {old : Bytes} where
  module _ {n : ℕ} (w : Movable from to s t old) (e : n ≡ room_of from (length s)) where
    news_many : length (news from to s t old) ≡ n
    news_many = length_tallied t 0 (store_in from s).slots ∙ slots_many from s ∙ sym e

    pub few_slots : (1 ≤ n) × (n ≤ 16384)
    few_slots = let z = size_says from (length s) w.room.source in (omega (arith, z.1), omega (arith, z.2))

    target_ends : length old ≡ slot_at to n
    target_ends = size_ends to (length old) w.room.target ∙ ap (slot_at to) (sym w.room.equal ∙ sym e)

    front_long : (i : ℕ) → i ≤ n → length (front from to s t old i) ≡ slot_at to i
    front_long i h =
        let l : length (take i (news from to s t old)) ≡ i = length-take-le i (news from to s t old) (omega (arith, news_many)) in
        simp length-append
        (omega (
          arith,
          length_header to (length (store_in from s).slots) (store_in from s).oldest (store_in from s).latest,
          length_slots_bytes to (take i (news from to s t old)) (all_take (SlotForm to) i (news from to s t old) w.each),
          ap (λ k. slot_size to * k) l,
        ))

    pub putting_starts : {cur : Bytes} → cur ≡ written 0 (header_bytes to n (store_in from s).oldest (store_in from s).latest) old → Putting from to s t cur cur n 0
    unfolding written
    putting_starts {cur} p =
        let hb = header_bytes to n (store_in from s).oldest (store_in from s).latest in
        let many : n ≡ length (store_in from s).slots = e ∙ sym (slots_many from s) in
        let long : length hb ≡ slot_at to 0 = omega (arith, length_header to n (store_in from s).oldest (store_in from s).latest) in
        let same : length cur ≡ length old =
        ap length p
        ∙ length_written 0 hb old (omega (arith, length_header to n (store_in from s).oldest (store_in from s).latest, size_least to (length old) w.room.target))
        in
        let rest : drop (0 + length hb) old ≡ drop (slot_at to 0) cur = sym (ap (drop (slot_at to 0)) p ∙ drop_at hb (drop (0 + length hb) old) (slot_at to 0) long) in
        record {
          able = record {
            room = record { source = w.room.source; target = rw same w.room.target; equal = w.room.equal ∙ ap (room_of to) (sym same) };
            whole = w.whole;
            each = w.each;
          };
          many = e;
          within = omega arith;
          bytes =
              p ∙ ap (hb ++◌) rest
              ∙ ap (λ m. header_bytes to m (store_in from s).oldest (store_in from s).latest ++ drop (slot_at to 0) cur) many
              ∙ ap (◌++ drop (slot_at to 0) cur) (sym (append-nil (header_bytes to (length (store_in from s).slots) (store_in from s).oldest (store_in from s).latest)));
        }

  module _ {cur : Bytes} {n i : ℕ} (w : Putting from to s t old cur n i) where
    pub putting_same : length cur ≡ length old
    putting_same =
        let h : slot_at to i ≤ length old = omega (arith, target_ends w.able w.many, slots_up to i n w.within) in
        let l : length (front from to s t old i ++ drop (slot_at to i) old) ≡ length old =
        length-append (front from to s t old i) (drop (slot_at to i) old) ∙ simp length-drop (omega (arith, front_long w.able w.many i w.within, h))
        in
        ap length w.bytes ∙ l

    module _ (h : i < n) where
      pub putting_has : Has from s i
      putting_has = record { size = w.able.room.source; inside = omega (arith, w.many) }

      pub putting_whole : (y : Bytes) → slot_no from i s ≡ spoiled y → ⊥
      putting_whole y e = w.able.whole i y (omega (arith, slots_many from s, w.many)) e

      after : slot_at to i + slot_size to ≤ length old
      after = omega (arith, slot_before to i n h, target_ends w.able w.many)

      pub putting_within : SlotWithin to i cur
      putting_within = rw putting_same after

      pub putting_next : {l m : ℕ} {u : Bytes} → l ≡ get_or t (2 * i) 0 → m ≡ get_or t (2 * i + 1) 0 →
          u ≡ with_slot to i (tallied (record { leftward = l; rightward = m }) (slot_no from i s)) cur → Putting from to s t old u n (i + 1)
      putting_next {l} {m} {u} a b p =
          let inside : i < length (store_in from s).slots = omega (arith, slots_many from s, w.many) in
          let new = tallied (tally_at t i) (slot_no from i s) in
          let zi : 0 + i ≡ i = omega arith in
          let here : get_or (news from to s t old) i free ≡ new =
          tallied_at t 0 (store_in from s).slots i inside ∙ ap (λ k. tallied (tally_at t k) (slot_no from i s)) zi
          in
          let there : i < length (news from to s t old) = omega (arith, news_many w.able w.many) in
          let long : length (slot_bytes to new) ≡ slot_size to =
          length_slot to new (subst (SlotForm to) here (all_at (SlotForm to) (news from to s t old) free i w.able.each there))
          in
          let up : suc i ≡ i + 1 = omega arith in
          record {
            able = w.able;
            many = w.many;
            within = omega arith;
            bytes =
                p ∙ ap₂ (λ x y. with_slot to i (tallied (record { leftward = x; rightward = y }) (slot_no from i s)) cur) a b
                ∙ ap (with_slot to i new) w.bytes
                ∙ front_grows (front from to s t old i) (slot_bytes to new) old (slot_at to i) (slot_size to) (front_long w.able w.many i w.within) long after
                ∙ ap₂ ◌++◌
                (append_assoc (header_bytes to (length (store_in from s).slots) (store_in from s).oldest (store_in from s).latest) (slots_bytes to (take i (news from to s t old))) (slot_bytes to new)
                ∙ ap (header_bytes to (length (store_in from s).slots) (store_in from s).oldest (store_in from s).latest ++◌)
                (ap (λ y. slots_bytes to (take i (news from to s t old)) ++ slot_bytes to y) (sym here) ∙ sym (slots_more to (news from to s t old) i there)
                ∙ ap (λ k. slots_bytes to (take k (news from to s t old))) up))
                (ap (λ k. drop k old) (slot_next to i));
          }

    pub putting_done : n ≤ i → cur ≡ store_bytes (tallied_as to t (store_in from s))
    unfolding store_bytes
    putting_done h =
        let e : n ≡ i = omega (arith, w.within) in
        let all : take i (news from to s t old) ≡ news from to s t old = take_all i (news from to s t old) (omega (arith, news_many w.able w.many)) in
        let none : drop (slot_at to i) old ≡ [] = drop_of_length-le old {i = slot_at to i} (omega (arith, target_ends w.able w.many, ap (slot_at to) e)) in
        let many : length (store_in from s).slots ≡ length (news from to s t old) = sym (length_tallied t 0 (store_in from s).slots) in
        w.bytes
        ∙ ap₂ (λ xs r. (header_bytes to (length (store_in from s).slots) (store_in from s).oldest (store_in from s).latest ++ slots_bytes to xs) ++ r) all none
        ∙ append-nil _
        ∙ ap (λ k. header_bytes to k (store_in from s).oldest (store_in from s).latest ++ slots_bytes to (news from to s t old)) many
