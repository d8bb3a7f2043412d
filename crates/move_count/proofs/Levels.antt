-- Level by level, the longest places first. Assumes nothing.
use Prim.Native.Nat.{ℕ, suc, ◌+◌, ◌*◌, ◌<◌, ◌≤◌}
use native.Mathlib.Omega.{arith}
use mathlib.Core.Path.{◌≡◌, refl, ap, ap₂, sym, ◌∙◌, subst}
use mathlib.Core.Logic.{◌⊎◌, inl, inr, ⊎_elim}
use mathlib.Core.Bool.{Bool, true, false}
use mathlib.Core.List.{List}
use lib.ListN.{length, get_or, set, take, drop, length-set}
use lib.Dec.{leb}
use borrow.Author.Tests.{leb-true, leb-false}
use lib.Seq.{get_or-set_same, get_or-set_other}
use Rattle.terms.specs.declared.Form.TheVariants.{Plain as plain}
use Rattle.terms.specs.Bits.{Bytes, Byte, All, left, right, longer, bits, none_set}
use Rattle.terms.specs.Records.{Child, leaf_body, inner_body, tally, Record, Slot, free, used, spoiled}
use Rattle.terms.proofs.Fields.{all_of_tests}
use Rattle.meaning.specs.Sound.{At}
use Rattle.nodehash.specs.Node.{leaf_hash, inner_hash}
use Rattle.place.specs.declared.Place as declared-place
use Rattle.place.specs.Place.{place_of, Stands, Grown}
use Rattle.layout.specs.Sizes.{room_of}
use Rattle.layout.specs.Slots.{leaf_in, inner_in, record_in, place_in, count_in, bits_in, left_in, right_in, head_right, is_inner, slot_of}
use Rattle.layout.specs.Stores.{slot_in, Has}
use Rattle.slots.proofs.Reading.{inner_head_lem}
use Rattle.lookup.proofs.Matching.{count_is_lem}
use Rattle.store.proofs.Slots.{slots_many, slot_is}
use Rattle.check_pass.specs.Passes.{kind_in}
use Rattle.check_pass.proofs.Passes.{each_next}
use Rattle.check_pass.proofs.Records.{kind_most, record_cases, free_zero, read_long, read_bytes, read_as}
use Rattle.move_count.specs.Count.{Countable, plain_store, leaves_at, CountsRight, CountedFrom, SlotCounted, LevelAt, Leveled}
use Rattle.move_count.proofs.Leaves.{counts_found, counts_found_lem}
use Rattle.move_count.proofs.Tables.{counted_in, tally_here, tally_other, tally_same}

leaf_inner : {A : Type 0} {k x : Bytes} {l m : Child} → leaf_body k x ≡ inner_body l m → A
leaf_inner e = let z : ◌≡◌ {A = ℕ} 0 1 = cc in absurd (omega arith)

-- the place of an inner record can be read
pub inner_place : (x : Bytes) → is_inner x ≡ true → {c : ℕ} → c ≡ count_in x → {y : Bytes} → y ≡ bits_in x → length y ≡ 32 →
    (length y ≡ 32) × (c ≤ 256) × (none_set (drop c (bits y)) ≡ true)
inner_place x e f g l = let (a, b) = inner_head_lem x e in (l, omega (arith, a, f), rw (f, g) b)

pub inner_short : (x : Bytes) → is_inner x ≡ true → count_in x ≤ 255
unfolding is_inner head_right inner_in
inner_short x e = leb-true (count_in x) 255 (all_of_tests _ (all_of_tests _ e).0).1.1.0

module _ {s : Bytes} (w : Countable s) {i : ℕ} (h : Has plain s i) where
  -- a record with children is what its bytes say
  inner_is : (r : Record) (l m : Child) → At (plain_store s) i r → r.body ≡ inner_body l m →
      (3 ≤ kind_in (slot_in plain i s)) × (r ≡ record_in (slot_in plain i s) (inner_in (slot_in plain i s)))
  unfolding record_in leaf_in
  inner_is r l m a b = ⊎_elim (λ k. leaf_inner (sym (ap (λ (q : Record). q.body) k.1) ∙ b))
      (λ k. (omega (arith, k.0, kind_most (length (slot_in plain i s))), k.1)) (record_cases (slot_in plain i s) r (read_as h refl r a))

  -- its place is at a level
  pub no_level : {k : ℕ} → k ≡ kind_in (slot_in plain i s) → k ≤ 2 → LevelAt s i 256
  no_level e f = record {
    inner = λ z. absurd (omega arith);
    place = λ r l m a b. absurd (omega (arith, e, f, (inner_is r l m a b).0));
  }

  pub its_level : All Byte s → {k n : ℕ} → k ≡ kind_in (slot_in plain i s) → 2 < k → n ≡ count_in (slot_in plain i s) → LevelAt s i n
  unfolding count_in
  its_level bytes {k} {n} e f g = record {
    inner = λ z. (go (slot_of (slot_in plain i s)) refl, sym g);
    place = λ r l m a b. sym (count_is_lem plain (slot_in plain i s) (read_long h refl) (read_bytes h refl bytes) r (read_as h refl r a)) ∙ sym g;
  }
    where
      go : (y : Slot) → slot_of (slot_in plain i s) ≡ y → is_inner (slot_in plain i s) ≡ true
      go free d = absurd (omega (arith, e, f, (free_zero plain (slot_in plain i s) (read_long h refl) (read_bytes h refl bytes) d).1))
      go (used r) d = ⊎_elim (λ q. absurd (omega (arith, e, f, q.0))) (λ q. q.2) (record_cases (slot_in plain i s) r d)
      go (spoiled y) d = absurd (w.sound.whole i y (omega (arith, h.inside, slots_many plain s)) (slot_is h ∙ d))

  -- the counts of one slot, from those of its children
  module _ {c : ℕ} {y : Bytes} {up cl cr : declared-place.Place} (ce : c ≡ count_in (slot_in plain i s)) (ye : y ≡ bits_in (slot_in plain i s))
      (su : Stands (take c (bits y)) c up) (gl : Grown left up cl) (gr : Grown right up cr) where
    its_place : place_of up ≡ place_in (slot_in plain i s)
    unfolding place_in
    its_place = su.place ∙ ap₂ (λ z b. take z (bits b)) ce ye

    pub slot_counted : (t : List ℕ) {v u a b : ℕ} → v ≡ (left_in (slot_in plain i s)).version → u ≡ (right_in (slot_in plain i s)).version →
        a ≡ leaves_at s v (place_of cl) → b ≡ leaves_at s u (place_of cr) → 2 * i + 1 < length t → SlotCounted s i t (counted_in t i a b)
    unfolding record_in inner_in
    slot_counted t {v} {u} {a} {b} ve ue ae be long = record {
      same = tally_same t i a b;
      here = λ r l m at e.
          let x = slot_in plain i s in
          let is = (inner_is r l m at e).1 in
          tally_here t i a b long
          ∙ ap₂ tally
          (ae ∙ ap₂ (leaves_at s) ve (gl.place ∙ ap (longer left) its_place))
          (be ∙ ap₂ (leaves_at s) ue (gr.place ∙ ap (longer right) its_place))
          ∙ sym (ap (λ (q : Record). counts_found (plain_store s).slots q.place q.body) is)
          ∙ sym (counts_found_lem leaf_hash inner_hash (plain_store s) w.sound i r at);
      others = tally_other t i a b;
    }

-- the counts of all longer places, and of the first i slots of this level
pub record Counting (s : Bytes) (t : List ℕ) (level i : ℕ) : Type 0 where
  pub long : length t ≡ 32768
  pub done : (j : ℕ) (r : Record) (l m : Child) → At (plain_store s) j r → r.body ≡ inner_body l m →
      (level < length r.place) ⊎ ((length r.place ≡ level) × (j < i)) → CountsRight s t j r

module _ {s : Bytes} {t : List ℕ} {level : ℕ} where
  pub counting_done : {i n : ℕ} → Counting s t level i → n ≤ i → n ≡ room_of plain (length s) → CountedFrom s t level
  unfolding At
  counting_done {i} {n} w h e = record { long = w.long; right = λ j r l m a b k. w.done j r l m a b (two j level (length r.place) a.0 k) }
    where
      two : (j x y : ℕ) → j < length (plain_store s).slots → x ≤ y → (x < y) ⊎ ((y ≡ x) × (j < i))
      two j x y a z = go (leb (suc x) y) refl
        where
          go : (c : Bool) → leb (suc x) y ≡ c → (x < y) ⊎ ((y ≡ x) × (j < i))
          go true d = inl (leb-true (suc x) y d)
          go false d = let f = leb-false (suc x) y d in inr (omega arith, omega (arith, a, slots_many plain s, h, e))

pub levels_next : {s : Bytes} {ls : List ℕ} {i x : ℕ} → Leveled s ls i → LevelAt s i x → i < 16384 → Leveled s (set ls i x) (i + 1)
levels_next {s} {ls} {i} {x} w k h = record {
  long = simp length-set w.long;
  each = each_next (λ j. LevelAt s j (get_or (set ls i x) j 0)) i
      (λ j l. subst (LevelAt s j) (sym (get_or-set_other ls i j x 0 (λ e. omega arith))) (w.each j l))
      (subst (LevelAt s i) (sym (get_or-set_same ls i x 0 (omega (arith, w.long)))) k);
}
