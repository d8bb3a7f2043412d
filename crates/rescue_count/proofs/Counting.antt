-- Two buffers compared from the last slot to the first: a slot counted, and the slots from it on. Assumes nothing.
use Prim.Native.Nat.{ℕ, suc, ◌+◌, ◌-◌, ◌<◌, ◌≤◌}
use native.Mathlib.Omega.{arith}
use native.Mathlib.Numerals.{add-one}
use mathlib.Core.Path.{◌≡◌, refl, ap, ap₂, sym, ◌∙◌, subst}
use mathlib.Core.Bool.{Bool, true, false, cond, true≢false}
use lib.ListN.{length, drop, drop_of_length-le}
use lib.Seq.{drop-cons}
use lib.Dec.{eqb}
use borrow.Author.Tests.{eq-eqb, ne_eqb}
use Rattle.terms.specs.declared.Form.TheVariants.{Counted as counted}
use Rattle.terms.specs.Bits.{Bytes, Byte, All}
use Rattle.terms.specs.Fields.{all_zero}
use Rattle.terms.specs.Records.{Record, Slot, free, used, spoiled}
use Rattle.layout.specs.Sizes.{room_of}
use Rattle.layout.specs.Headers.{size_right}
use Rattle.layout.specs.Slots.{since_in, slot_of}
use Rattle.layout.specs.Stores.{slot_in, store_of, slot_no, Has}
use Rattle.layout.proofs.Headers.{size_says}
use Rattle.layout.proofs.Slots.{retired_says, zero_free, free_zero}
use Rattle.store.proofs.Slots.{slots_many, slot_long, slot_bytes_lem, slot_within, slot_is}
use Rattle.lookup.specs.Lookup.{is_used}
use Rattle.lookup.proofs.Matching.{says}
use Rattle.lookup.proofs.Searching.{used_or}
use Rattle.rescue_rules.specs.Rescue.{Counts, compared, counts}
use Rattle.rescue_count.specs.declared.Counts as declared
use Rattle.rescue_count.specs.Count.{counts_say, Pair, Countable}

abbrev Told : ℕ → ℕ → ℕ → Counts
Told a b c = record { same = a; other = b; out = c }

-- one slot
module _ (y z : Slot) (c : declared.Counts) where
  free_none : y ≡ free → counts_say c ≡ compared y z (counts_say c)
  free_none e = sym (ap (λ x. compared x z (counts_say c)) e)

  -- a used slot with no record before or after it is left out
  left_out : (y ≡ free → ⊥) → (is_used y ≡ true → is_used z ≡ false) → Told c.same c.other (c.out + 1) ≡ compared y z (counts_say c)
  left_out f u = ap (λ n. Told c.same c.other n) (add-one c.out) ∙ sym (go y z f u)
    where
      go : (x w : Slot) → (x ≡ free → ⊥) → (is_used x ≡ true → is_used w ≡ false) → compared x w (counts_say c) ≡ Told c.same c.other (suc c.out)
      go free w f u = absurd (f refl)
      go (used r) free f u = refl
      go (used r) (used q) f u = absurd (true≢false (u refl))
      go (used r) (spoiled x) f u = refl
      go (spoiled x) w f u = refl

  both_used : (r q : Record) → y ≡ used r → z ≡ used q → compared y z (counts_say c)
      ≡ cond (eqb r.retired q.retired) (Told (suc c.same) c.other c.out) (Told c.same (suc c.other) c.out)
  both_used r q a b = ap₂ (λ x y. compared x y (counts_say c)) a b

-- a slot of both, by its bytes
module _ {s t : Bytes} {i : ℕ} {c : declared.Counts} (w : Countable s t i c) where
  abbrev After : Counts
  After = compared (slot_no counted i s) (slot_no counted i t) (counts_say c)

  module _ {x y : Bytes} (is-s : x ≡ slot_in counted i s) (is-t : y ≡ slot_in counted i t) where
    at_s : slot_no counted i s ≡ slot_of x
    at_s = slot_is w.before ∙ ap slot_of (sym is-s)

    at_t : slot_no counted i t ≡ slot_of y
    at_t = slot_is w.after ∙ ap slot_of (sym is-t)

    pub counts_free : {a : Bool} → a ≡ all_zero x → a ≡ true → counts_say c ≡ After
    counts_free e k = free_none (slot_no counted i s) (slot_no counted i t) c (at_s ∙ zero_free x (sym e ∙ k))

    pub counts_spoiled : {a b : Bool} → a ≡ all_zero x → a ≡ false → b ≡ is_used (slot_of x) → b ≡ false → Told c.same c.other (c.out + 1) ≡ After
    counts_spoiled e k f l =
        left_out (slot_no counted i s) (slot_no counted i t) c (λ z. true≢false (sym (free_zero x (sym at_s ∙ z)) ∙ sym e ∙ k))
        (λ u. absurd (true≢false (sym u ∙ ap is_used at_s ∙ sym f ∙ l)))

    module _ {b d : Bool} (f : b ≡ is_used (slot_of x)) (l : b ≡ true) (g : d ≡ is_used (slot_of y)) where
      pub counts_out : d ≡ false → Told c.same c.other (c.out + 1) ≡ After
      counts_out m =
          left_out (slot_no counted i s) (slot_no counted i t) c (λ z. true≢false (sym (ap is_used at_s ∙ sym f ∙ l) ∙ ap is_used z)) (λ u. ap is_used at_t ∙ sym g ∙ m)

      module _ (m : d ≡ true) (bytes-s : All Byte s) (bytes-t : All Byte t) {j k : ℕ} (since-s : j ≡ since_in (slot_in counted i s)) (since-t : k ≡ since_in (slot_in counted i t)) where
        source_record : (r : Record) × (slot_of x ≡ used r)
        source_record = used_or (slot_of x) (sym f ∙ l)

        target_record : (r : Record) × (slot_of y ≡ used r)
        target_record = used_or (slot_of y) (sym g ∙ m)

        own : (n : Bytes) (h : Has counted n i) → All Byte n → (r : Record) → slot_of (slot_in counted i n) ≡ used r → since_in (slot_in counted i n) ≡ r.retired
        own n h b r e =
            let q = says (slot_in counted i n) (slot_long counted i n (slot_within h)) (slot_bytes_lem counted i n b) r e in ap since_in (sym q.bytes) ∙ retired_says counted r q.form

        source_since : j ≡ source_record.0.retired
        source_since = since-s ∙ own s w.before bytes-s source_record.0 (ap slot_of (sym is-s) ∙ source_record.1)

        target_since : k ≡ target_record.0.retired
        target_since = since-t ∙ own t w.after bytes-t target_record.0 (ap slot_of (sym is-t) ∙ target_record.1)

        both_counted : (b : Bool) → eqb j k ≡ b → After ≡ cond b (Told (suc c.same) c.other c.out) (Told c.same (suc c.other) c.out)
        both_counted b e =
            both_used (slot_no counted i s) (slot_no counted i t) c source_record.0 target_record.0 (at_s ∙ source_record.1) (at_t ∙ target_record.1)
            ∙ ap (λ m. cond m (Told (suc c.same) c.other c.out) (Told c.same (suc c.other) c.out))
            (ap₂ eqb (sym source_since) (sym target_since) ∙ e)

        pub counts_same : j ≡ k → Told (c.same + 1) c.other c.out ≡ After
        counts_same e = ap (λ n. Told n c.other c.out) (add-one c.same) ∙ sym (both_counted true (eq-eqb j k e))

        pub counts_other : (j ≡ k → ⊥) → Told c.same (c.other + 1) c.out ≡ After
        counts_other e = ap (λ n. Told c.same n c.out) (add-one c.other) ∙ sym (both_counted false (ne_eqb j k e))

-- a slot is counted once at most
compared_few : (x y : Slot) (c : Counts) →
    (compared x y c).same + (compared x y c).other + (compared x y c).out ≤ suc (c.same + c.other + c.out)
compared_few free y c = omega arith
compared_few (used r) free c = omega arith
compared_few (used r) (spoiled z) c = omega arith
compared_few (used r) (used q) c = go (eqb r.retired q.retired)
  where
    go : (b : Bool) →
        (cond b (Told (suc c.same) c.other c.out) (Told c.same (suc c.other) c.out)).same
        + (cond b (Told (suc c.same) c.other c.out) (Told c.same (suc c.other) c.out)).other
        + (cond b (Told (suc c.same) c.other c.out) (Told c.same (suc c.other) c.out)).out
        ≤ suc (c.same + c.other + c.out)
    go true = omega arith
    go false = omega arith
compared_few (spoiled z) y c = omega arith

-- the slots from i on are counted
pub record Counted (s t : Bytes) (n : ℕ) (c : declared.Counts) (i : ℕ) : Type 0 where
  pub pair : Pair s t
  pub room : n ≡ room_of counted (length s)
  pub small : n ≤ 16384
  pub within : i ≤ n
  pub few : c.same + c.other + c.out + i ≤ n
  pub told : counts_say c ≡ counts (drop i (store_of s).slots) (drop i (store_of t).slots)

module _ {s t : Bytes} where
  same_room : Pair s t → room_of counted (length t) ≡ room_of counted (length s)
  same_room p = ap (room_of counted) p.equal

  pub counted_start : {n : ℕ} → Pair s t → n ≡ room_of counted (length s) → (c : declared.Counts) → c.same ≡ 0 → c.other ≡ 0 → c.out ≡ 0 → Counted s t n c n
  counted_start {n} p e c x y z = record {
    pair = p;
    room = e;
    small = omega (arith, size_says counted (length s) p.size);
    within = omega arith;
    few = omega arith;
    told =
        told_zero c.same c.other c.out x y z
        ∙ sym (ap₂ counts (drop_of_length-le (store_of s).slots {i = n} (omega (arith, slots_many counted s)))
        (drop_of_length-le (store_of t).slots {i = n} (omega (arith, slots_many counted t, same_room p))));
  }
    where
      told_zero : (a b d : ℕ) → a ≡ 0 → b ≡ 0 → d ≡ 0 → Told a b d ≡ Told 0 0 0
      told_zero a b d x y z = ap₂ (λ u v. Told u v d) x y ∙ ap (λ v. Told 0 0 v) z

  module _ {n : ℕ} {c : declared.Counts} {i : ℕ} (w : Counted s t n c i) where
    pub counted_slot : 0 < i → Countable s t (i - 1) c
    counted_slot h = record {
      before = record { size = w.pair.size; inside = omega (arith, w.room, w.within) };
      after = record { size = subst (λ m. size_right counted m ≡ true) (sym w.pair.equal) w.pair.size; inside = omega (arith, w.room, w.within, same_room w.pair) };
      few = omega (arith, w.few, w.small);
    }

    pub counted_next : 0 < i → (r : declared.Counts) → counts_say r ≡ compared (slot_no counted (i - 1) s) (slot_no counted (i - 1) t) (counts_say c) → Counted s t n r (i - 1)
    counted_next h r e =
        let l : (compared (slot_no counted (i - 1) s) (slot_no counted (i - 1) t) (counts_say c)).same + (compared (slot_no counted (i - 1) s) (slot_no counted (i - 1) t) (counts_say c)).other
        + (compared (slot_no counted (i - 1) s) (slot_no counted (i - 1) t) (counts_say c)).out ≤ suc (c.same + c.other + c.out) =
        compared_few (slot_no counted (i - 1) s) (slot_no counted (i - 1) t) (counts_say c) in
        record {
          pair = w.pair;
          room = w.room;
          small = w.small;
          within = omega (arith, w.within);
          few = omega (arith, w.few, l, ap (λ (k : Counts). k.same) e, ap (λ (k : Counts). k.other) e, ap (λ (k : Counts). k.out) e);
          told = e ∙ ap (compared (slot_no counted (i - 1) s) (slot_no counted (i - 1) t)) (w.told ∙ up)
              ∙ sym (ap₂ counts (drop-cons (store_of s).slots (i - 1) free (omega (arith, slots_many counted s, w.room, w.within)))
              (drop-cons (store_of t).slots (i - 1) free (omega (arith, slots_many counted t, same_room w.pair, w.room, w.within))));
        }
      where
        up : counts (drop i (store_of s).slots) (drop i (store_of t).slots) ≡ counts (drop (suc (i - 1)) (store_of s).slots) (drop (suc (i - 1)) (store_of t).slots)
        up = let k : i ≡ suc (i - 1) = omega arith in ap (λ m. counts (drop m (store_of s).slots) (drop m (store_of t).slots)) k

    pub counted_end : i ≤ 0 → counts_say c ≡ counts (store_of s).slots (store_of t).slots
    counted_end h = w.told ∙ (let k : i ≡ 0 = omega arith in ap (λ m. counts (drop m (store_of s).slots) (drop m (store_of t).slots)) k)
