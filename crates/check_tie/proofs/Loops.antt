-- Both sides of a slot, and slot by slot. Assumes nothing.
use Prim.Native.Nat.{ℕ, ◌+◌, ◌*◌, ◌-◌, ◌%◌, ◌<◌, ◌≤◌, max}
use native.Mathlib.Omega.{arith}
use mathlib.Core.Path.{◌≡◌, refl, ap, ap₂, sym, ◌∙◌, subst}
use mathlib.Core.Logic.{inr, ⊎_elim}
use mathlib.Core.Bool.{true, false}
use mathlib.Core.List.{List}
use lib.ListN.{length, take, drop}
use borrow.Author.Tests.{leb-true, eq-eqb, ne_eqb}
use Rattle.terms.specs.declared.Form.{Form}
use Rattle.terms.specs.Bits.{Bytes, Byte, All, Side, left, right, bits, none_set}
use Rattle.terms.specs.Records.{no_tally, count_on, Record, used}
use Rattle.terms.specs.Form.{CountsForm}
use Rattle.terms.proofs.Fields.{all_of_tests}
use Rattle.meaning.specs.Sound.{At}
use Rattle.meaning.specs.Local.{ends_before, child_version}
use Rattle.meaning.proofs.Finding.{used_eq}
use Rattle.local.specs.Test.{kept_life}
use Rattle.nodehash.specs.Node.{leaf_hash, inner_hash}
use Rattle.place.specs.declared.Place as declared-place
use Rattle.place.specs.Place.{Stands}
use Rattle.layout.specs.Sizes.{room_of}
use Rattle.layout.specs.Headers.{size_right}
use Rattle.layout.specs.Slots.{count_in, bits_in, place_in, version_in, since_in, leaf_in, left_in, right_in, kid_on, inner_in, counts_in, record_in, head_right, is_inner, slot_of, SlotForm}
use Rattle.layout.specs.Stores.{slot_in, store_in, Has}
use Rattle.layout.proofs.Slots.{slot_form}
use Rattle.slots.proofs.Reading.{inner_head_lem}
use Rattle.check_kin.specs.declared.Kept as declared-kept
use Rattle.check_kin.specs.Kin.{Keeps, ends_at}
use Rattle.store.proofs.Slots.{slots_many}
use Rattle.check_pass.specs.Passes.{kind_in}
use Rattle.check_pass.proofs.Walks.{Walk, walk_start, walk_next}
use Rattle.check_pass.proofs.Records.{kind_most, record_cases, read_long, read_bytes, read_as, stands}
use Rattle.check_hash.specs.Known.{link_slot, link_side, Stored, Known}
use Rattle.hash.specs.declared.Hash.{Hash}
use Rattle.hash.specs.Hash.{hash_bytes}
use Rattle.check_seen.specs.Seen.{OwnAt, Tied}
use Rattle.check_seen.specs.Sums.{Under}
use Rattle.check_seen.proofs.Sums.{under_record, under_other}
use Rattle.check_child.specs.declared.Parent as declared
use Rattle.check_child.specs.declared.Link as declared-link
use Rattle.check_child.specs.Child.{IsParent, IsLink, SideTied}
use Rattle.check_tie.specs.Side.{ParentIn, TiedAt, SlotTied, TiedTo}
use Rattle.check_child.proofs.Children.{holds}

-- the place of an inner record can be read
pub inner_place : (x : Bytes) → is_inner x ≡ true → {c : ℕ} → c ≡ count_in x → {y : Bytes} → y ≡ bits_in x → length y ≡ 32 →
    (length y ≡ 32) × (c ≤ 256) × (none_set (drop c (bits y)) ≡ true)
inner_place x e f g l = let (a, b) = inner_head_lem x e in (l, omega (arith, a, f), rw (f, g) b)

inner_short : (x : Bytes) → is_inner x ≡ true → count_in x ≤ 255
unfolding is_inner head_right inner_in
inner_short x e = leb-true (count_in x) 255 (all_of_tests _ (all_of_tests _ e).0).1.1.0

pub parent_is : (k : declared-kept.Kept) (x : Bytes) → is_inner x ≡ true → {c v n e f l : ℕ} {up : declared-place.Place} → c ≡ count_in x → {y : Bytes} →
    y ≡ bits_in x → Stands (take c (bits y)) c up → v ≡ version_in x → n ≡ since_in x → e ≡ ends_at k.latest n → e ≤ 4294967296 → f ≡ max k.oldest v →
    l ≡ e - max k.oldest v → ParentIn k x (record { up = up; first = f; ends = e; life = l })
unfolding place_in
parent_is k x i ce be w ve ne ee es fe le = record {
  fit = record { proper = w.proper; short = omega (arith, inner_short x i, w.count, ce); life = omega (arith, le) };
  place = w.place ∙ ap₂ (λ z b. take z (bits b)) ce be;
  first = fe ∙ ap (max k.oldest) ve;
  ends = ee ∙ ap (ends_at k.latest) ne;
  life = rw (← ve) le;
}

module _ {fm : Form} {s : Bytes} {j : ℕ} (h : Has fm s j) where
  inside : j < length (store_in fm s).slots
  inside = omega (arith, h.inside, slots_many fm s)

  none_on : (b : Side) → count_on b no_tally ≡ 0
  none_on true = refl
  none_on false = refl

  -- a leaf has no counts
  bare : All Byte s → (q : Record) → At (store_in fm s) j q → q ≡ record_in (slot_in fm j s) (leaf_in (slot_in fm j s)) → q.counts ≡ no_tally
  unfolding record_in leaf_in
  bare bytes q a w =
      let f = subst (SlotForm fm) (read_as h refl q a) (slot_form fm (slot_in fm j s) (read_long h refl) (read_bytes h refl bytes)) in
      subst (λ o. CountsForm o q.counts) (ap (λ z. z.body) w) f.0.counts

  -- no inner record
  pub other_tied : All Byte s → {k : ℕ} → k ≡ kind_in (slot_in fm j s) → k ≤ 2 → (xs : List ℕ) → SlotTied fm s j xs xs
  unfolding record_in leaf_in
  other_tied bytes e f xs = record {
    tied = λ q a b. ⊎_elim
        (λ w. (λ some. absurd (omega (arith, some, ap (λ z. child_version b z.body) w.1)), λ z g. ap (count_on b) (bare bytes q a w.1) ∙ none_on b))
        (λ w. absurd (omega (arith, e, f, w.0, kind_most (length (slot_in fm j s)))))
        (record_cases (slot_in fm j s) q (read_as h refl q a));
    under = under_other (store_in fm s) j xs inside;
  }

  module _ (bytes : All Byte s) (own : OwnAt (store_in fm s) j) {k : ℕ} (ke : k ≡ kind_in (slot_in fm j s)) (inner : 2 < k) where
    is_record : (slot_of (slot_in fm j s) ≡ used (record_in (slot_in fm j s) (inner_in (slot_in fm j s)))) × (is_inner (slot_in fm j s) ≡ true)
    is_record =
        let (r, e) = holds h bytes own (inr (λ z. omega (arith, ke, inner))) in
        ⊎_elim (λ w. absurd (omega (arith, w.0, ke, inner))) (λ w. (e ∙ ap used w.1, w.2)) (record_cases (slot_in fm j s) r e)

    pub inner_here : is_inner (slot_in fm j s) ≡ true
    inner_here = is_record.1

    module _ {p : declared.Parent} {t : declared-kept.Kept} (keeps : Keeps fm s t) (w : ParentIn t (slot_in fm j s) p) where
      abbrev it : Record
      it = record_in (slot_in fm j s) (inner_in (slot_in fm j s))

      stands_here_lem : At (store_in fm s) j it
      stands_here_lem = stands h refl it is_record.0

      is_parent_lem : IsParent (store_in fm s) p it
      unfolding record_in kept_life ends_before
      is_parent_lem = record {
        place = sym w.place;
        first = rw keeps.oldest (sym w.first);
        ends = rw keeps.latest (sym w.ends);
        life = rw (keeps.oldest, keeps.latest) (ap (λ e. e - max t.oldest (version_in (slot_in fm j s))) (sym w.ends) ∙ sym w.life);
      }

      abbrev left_link : ℕ → ℕ → ℕ → Hash → ℕ → declared-link.Link
      left_link n a b g c = record { right = false; number = n; version = a; hash = g; other = b; count = c }

      abbrev right_link : ℕ → ℕ → ℕ → Hash → ℕ → declared-link.Link
      right_link n a b g c = record { right = true; number = n; version = b; hash = g; other = a; count = c }

      pub inner_tied : (n m a b : ℕ) → a ≡ (left_in (slot_in fm j s)).version → b ≡ (right_in (slot_in fm j s)).version → (f g : Hash) → hash_bytes f ≡ (left_in (slot_in fm j s)).hash →
          hash_bytes g ≡ (right_in (slot_in fm j s)).hash → (x y : ℕ) → x ≡ count_on left (counts_in (slot_in fm j s)) → y ≡ count_on right (counts_in (slot_in fm j s)) →
          (xs ys zs : List ℕ) → SideTied fm s p (left_link n a b f x) xs ys → SideTied fm s p (right_link m a b g y) ys zs →
          SlotTied fm s j xs zs
      unfolding record_in inner_in At
      inner_tied n m a b ea eb f g ef eg x y ex ey xs ys zs u v =
          let l : IsLink (left_link n a b f x) it = record {
            l = left_in (slot_in fm j s);
            m = right_in (slot_in fm j s);
            body = refl;
            version = sym ea;
            hash = sym ef;
            other = sym eb;
            count = sym ex;
          } in
          let o : IsLink (right_link m a b g y) it = record {
            l = left_in (slot_in fm j s);
            m = right_in (slot_in fm j s);
            body = refl;
            version = sym eb;
            hash = sym eg;
            other = sym ea;
            count = sym ey;
          } in
          let (tl, al) = u it is_parent_lem l in
          let (tr, ar) = v it is_parent_lem o in
          let both : (b : Side) → Tied leaf_hash inner_hash (store_in fm s) it b = λ b.
          elim b as (λ c. Tied leaf_hash inner_hash (store_in fm s) it c) [ true ↦ tr | false ↦ tl ] in
          record {
            tied = λ q c. subst (λ y. (b : Side) → Tied leaf_hash inner_hash (store_in fm s) y b) (used_eq it q (sym stands_here_lem.1 ∙ c.1)) both;
            under = λ w. under_record (store_in fm s) j it stands_here_lem xs ys zs w al ar;
          }

-- the links of slot j store the hashes of its children
module _ {fm : Form} {s : Bytes} {j : ℕ} (h : Has fm s j) where
  stored_as : (n : ℕ) (b : Side) (f : Hash) → 1 ≤ n → link_slot n ≡ j → link_side n ≡ b → hash_bytes f ≡ (kid_on b (slot_in fm j s)).hash → Stored fm s n f
  stored_as n b f some slot side e = record {
    some = some;
    has = subst (Has fm s) (sym slot) h;
    hash = e ∙ sym (ap₂ (λ k w. (kid_on w (slot_in fm k s)).hash) slot side);
  }

  pub left_stored : (n : ℕ) (f : Hash) → n ≡ 2 * j + 1 → hash_bytes f ≡ (left_in (slot_in fm j s)).hash → Stored fm s n f
  left_stored n f e = stored_as n left f (omega arith) (omega arith) (ne_eqb ((n - 1) % 2) 1 (λ z. omega arith))

  pub right_stored : (n : ℕ) (f : Hash) → n ≡ 2 * j + 2 → hash_bytes f ≡ (right_in (slot_in fm j s)).hash → Stored fm s n f
  right_stored n f e = stored_as n right f (omega arith) (omega arith) (eq-eqb ((n - 1) % 2) 1 (omega arith))

-- the slots before j are tied
pub record Going (fm : Form) (s : Bytes) (n : ℕ) (xs ys ks : List ℕ) (j : ℕ) : Type 0 where
  pub walk : Walk fm s (TiedAt fm s) n j
  pub known : Known fm s ks
  pub under : Under (store_in fm s) xs 0 → Under (store_in fm s) ys j

pub go_start : {fm : Form} (s : Bytes) (xs ks : List ℕ) → size_right fm (length s) ≡ true → {n : ℕ} → n ≡ room_of fm (length s) → Known fm s ks → Going fm s n xs xs ks 0
go_start {fm} s xs ks e m k = record { walk = walk_start s (TiedAt fm s) e m; known = k; under = λ u. u }

module _ {fm : Form} {s : Bytes} {n : ℕ} {xs ys ks : List ℕ} {j : ℕ} (w : Going fm s n xs ys ks j) where
  pub go_next : j < n → (zs ls : List ℕ) → Known fm s ls → SlotTied fm s j ys zs → Going fm s n xs zs ls (j + 1)
  go_next h zs ls k t = record { walk = walk_next w.walk h t.tied; known = k; under = λ u. t.under (w.under u) }

  pub go_end : n ≤ j → TiedTo fm s j xs ys
  go_end h g = let e : j ≡ room_of fm (length s) = omega (arith, w.walk.scan.room, w.walk.scan.within) in record {
    tied = λ i l. w.walk.each i (omega arith);
    under = λ u. subst (Under (store_in fm s) ys) e (w.under u);
  }

  -- a slot before the end
  pub go_off : j < n → (zs : List ℕ) → TiedTo fm s j xs zs
  go_off h zs g = absurd (omega (arith, w.walk.scan.room))
