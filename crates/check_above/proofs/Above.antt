-- What stands above a record: nothing above a root, which no record names and which the other roots leave room; else its parents, one bit
-- shorter. Assumes nothing.
use Prim.Native.Nat.{ℕ, zero, suc, ◌-◌, ◌<◌, max}
use native.Mathlib.Omega.{arith}
use mathlib.Core.Path.{◌≡◌, refl, ap, sym, ◌∙◌}
use mathlib.Core.Bool.{Bool, true, false}
use mathlib.Core.List.{[]}
use lib.ListN.{length, take}
use lib.Seq.{take-suc}
use Rattle.terms.specs.declared.Form.{Form}
use Rattle.terms.specs.Bits.{Bytes, Side, Place, bits, bit, longer, same_place}
use Rattle.terms.specs.Records.{Body, Tally, free}
use Rattle.terms.proofs.Tests.{is_false, same_place_lem}
use Rattle.terms.proofs.Places.{length_bits, length_longer}
use Rattle.meaning.specs.Local.{ends_before}
use Rattle.local.specs.Test.{every, by_record, names, kept_life, link_test, life_covered}
use Rattle.local.proofs.Scans.{at_every}
use Rattle.local.proofs.Naming.{names_eq}
use Rattle.hash.specs.declared.Hash.{Hash}
use Rattle.nodehash.specs.Node.{leaf_hash, inner_hash}
use Rattle.place.specs.declared.Place as declared-place
use Rattle.place.specs.Place.{place_of, Stands}
use Rattle.place.proofs.Places.{proper_whole, proper_count}
use Rattle.layout.specs.Stores.{store_in, slot_no}
use Rattle.check_kin.specs.declared.Kept as declared-kept
use Rattle.check_kin.specs.Kin.{ends_at, clear_of}
use Rattle.check_parents.specs.Parents.{Is, ParentsSay}
use Rattle.check_roots.proofs.Roots.{root_clear}
use Rattle.check_parents.proofs.Naming.{none_said}
use Rattle.check_alone.specs.declared.Head as declared
use Rattle.check_alone.specs.Parts.{record_on, Headed}
use Rattle.check_above.specs.Above.{AboveSays}

module _ {fm : Form} {s : Bytes} {k : declared-kept.Kept} {h : declared.Head} (w : Headed fm s k h) where
  ends_is : {ends : ℕ} → ends ≡ ends_at k.latest h.retired → (o : Body) (tl : Tally) → ends_before (store_in fm s) (record_on h o tl) ≡ ends
  unfolding ends_before
  ends_is e o tl = rw w.keeps.latest (sym e)

  place_long : length (place_of h.place) ≡ h.place.count
  place_long = proper_count h.place w.proper

  -- a root
  module _ (z : h.place.count ≡ 0) (o : Body) (tl : Tally) where
    empty : place_of h.place ≡ []
    unfolding place_of
    empty = ap (λ n. take n (bits h.place.bits)) z

    no_parents : every (by_record true (link_test leaf_hash inner_hash (store_in fm s) (record_on h o tl))) (store_in fm s).slots ≡ true
    no_parents =
        at_every (by_record true (link_test leaf_hash inner_hash (store_in fm s) (record_on h o tl))) (store_in fm s).slots free (λ i l.
        (none_said (store_in fm s) (record_on h o tl) (slot_no fm i s) (λ q e b.
        is_false (names b q (record_on h o tl)) (λ n.
        omega (arith, ap length (names_eq b q (record_on h o tl) n).1, length_longer b q.place, place_long)))).0)

    root_covered : {ends : ℕ} → ends ≡ ends_at k.latest h.retired →
        life_covered (store_in fm s) (record_on h o tl) ≡ every (by_record true (clear_of (store_in fm s) h.version ends)) (store_in fm s).slots
    unfolding life_covered
    root_covered e =
        rw (ap (λ p. same_place p []) empty)
        (ap (λ f. every (by_record true f) (store_in fm s).slots) (root_clear (store_in fm s) (record_on h o tl))
        ∙ ap (λ n. every (by_record true (clear_of (store_in fm s) h.version n)) (store_in fm s).slots) (ends_is e o tl))

  pub root_says_lem : h.place.count ≡ 0 → (leaf : Bool) (hash : Hash) {ends : ℕ} → ends ≡ ends_at k.latest h.retired → {t : Bool} →
      t ≡ every (by_record true (clear_of (store_in fm s) h.version ends)) (store_in fm s).slots → AboveSays fm s h leaf hash t
  root_says_lem z leaf hash e f o tl kind hashed = f ∙ sym (rw (no_parents z o tl, root_covered z o tl e))

  -- a record below the root
  module _ (n : h.place.count ≡ 0 → ⊥) where
    not_root : same_place (place_of h.place) [] ≡ false
    not_root = is_false _ (λ e. n (sym place_long ∙ ap length (same_place_lem (place_of h.place) [] e)))

    one_more : (up : declared-place.Place) (right : Side) → Stands (take (h.place.count - 1) (bits h.place.bits)) (h.place.count - 1) up →
        right ≡ bit (h.place.count - 1) h.place.bits → place_of h.place ≡ longer right (place_of up)
    unfolding place_of longer bit
    one_more up right u e =
        let c = h.place.count in
        let b = bits h.place.bits in
        let m : c ≡ suc (c - 1) = go c n in
        let l : c - 1 < length b = omega (arith, length_bits h.place.bits, proper_whole h.place w.proper, w.proper.short, m) in
        ap (λ x. take x b) m ∙ take-suc b (c - 1) false l ∙ rw (← u.place, ← e)
      where
        go : (c : ℕ) → (c ≡ 0 → ⊥) → c ≡ suc (c - 1)
        go zero f = absurd (f refl)
        go (suc c) f = omega arith

    pub below_says : (up : declared-place.Place) (right : Side) → Stands (take (h.place.count - 1) (bits h.place.bits)) (h.place.count - 1) up →
        right ≡ bit (h.place.count - 1) h.place.bits → (leaf : Bool) (hash : Hash) (ends : ℕ) → ends ≡ ends_at k.latest h.retired → (life : ℕ) →
        life ≡ ends - max k.oldest h.version → (t : Bool) →
        ParentsSay fm s (record { up = up; right = right; version = h.version; ends = ends; leaf = leaf; hash = hash }) life t → AboveSays fm s h leaf hash t
    unfolding life_covered kept_life
    below_says up right u g leaf hash ends e life l t says o tl kind hashed =
        let is : Is (store_in fm s) (record { up = up; right = right; version = h.version; ends = ends; leaf = leaf; hash = hash }) (record_on h o tl) =
        record { place = one_more up right u g; version = refl; some = w.version; ends = ends_is e o tl; kind = kind; hash = hashed }
        in
        says (record_on h o tl) is ∙ rw (not_root, ends_is e o tl, w.keeps.oldest, l)
