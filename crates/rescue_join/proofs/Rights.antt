-- A tree is right where its root is right and both sides are; and one that joins a right tree is right. Assumes nothing.
use Prim.Native.Nat.{ℕ, zero, suc, ◌-◌, ◌<◌}
use native.Mathlib.Omega.{arith}
use mathlib.Core.Path.{◌≡◌, refl, ap, sym, ◌∙◌, subst}
use mathlib.Core.Bool.{Bool, true, false, ◌&&◌, ◌||◌}
use mathlib.Core.List.{List}
use mathlib.Core.Option.{none}
use lib.ListN.{length}
use lib.Dec.{eqb}
use borrow.Author.Tests.{eqb-true}
use Rattle.terms.specs.declared.Form.TheVariants.{Counted as counted}
use Rattle.terms.specs.Bits.{Bytes, Byte, All, Side, left, right, Place, longer}
use Rattle.terms.specs.Records.{Slot}
use Rattle.terms.proofs.Tests.{and_left, and_right}
use Rattle.meaning.specs.Store.{find}
use Rattle.nodehash.specs.Node.{leaf_hash, inner_hash}
use Rattle.place.specs.declared.Place as place
use Rattle.place.specs.Place.{place_of, Grown}
use Rattle.layout.specs.Headers.{size_right}
use Rattle.layout.specs.Stores.{store_of}
use Rattle.rescue_rules.specs.Joining.{kid_of, record_right, parted, join_at}
use Rattle.rescue_look.proofs.Looking.{no_version}
use Rattle.rescue_join.specs.Join.{RightFrom, RightHere}

right_root : (n : ℕ) (s : List Slot) (v : ℕ) (p : Place) → RightFrom n s v p → record_right leaf_hash inner_hash s v p (find v p s) ≡ true
right_root zero s v p h = h
right_root (suc n) s v p h = h.0

module _ (s : Bytes) (p : place.Place) (b : ℕ) (h : RightHere s p b) where
  abbrev S : List Slot
  S = (store_of s).slots

  pub right_here : record_right leaf_hash inner_hash S b (place_of p) (find b (place_of p) S) ≡ true
  unfolding RightHere
  right_here = right_root (256 - p.count) S b (place_of p) h

  pub right_side : p.count < 256 → (c : Side) {l : place.Place} → Grown c p l → {y : ℕ} → y ≡ kid_of c (find b (place_of p) S) → RightHere s l y
  unfolding RightHere
  right_side short c {l} grown {y} k =
      let n : 256 - p.count ≡ suc (255 - p.count) = omega arith in
      let m : 255 - p.count ≡ 256 - l.count = omega (arith, grown.count) in
      let below = (subst (λ n. RightFrom n S b (place_of p)) n h).1 c in
      subst (λ n. RightFrom n S y (place_of l)) m
      (subst (RightFrom (255 - p.count) S y) (sym grown.place) (subst (λ v. RightFrom (255 - p.count) S v (longer c (place_of p))) (sym k) below))

-- Version 0 is no node: there is nothing to be wrong.
pub nothing_right : (s : Bytes) → size_right counted (length s) ≡ true → All Byte s → (n : ℕ) (p : Place) → RightFrom n (store_of s).slots 0 p
nothing_right s size bytes n p = go n p
  where
    root : (p : Place) → record_right leaf_hash inner_hash (store_of s).slots 0 p (find 0 p (store_of s).slots) ≡ true
    root p = ap (record_right leaf_hash inner_hash (store_of s).slots 0 p) (no_version s size bytes 0 p refl)

    go : (n : ℕ) (p : Place) → RightFrom n (store_of s).slots 0 p
    go zero p = root p
    go (suc n) p = (
      root p,
      λ c. subst (λ v. RightFrom n (store_of s).slots v (longer c p)) (sym (ap (kid_of c) (no_version s size bytes 0 p refl))) (go n (longer c p)),
    )

-- What two trees share is right in the one, what the first alone has is right by the comparison.
module _ (s : List Slot) (next : ℕ) where
  abbrev Here : ℕ → ℕ → Place → Bool
  Here a b p = (eqb b 0 || eqb b next) && record_right leaf_hash inner_hash s a p (find a p s)

  parted_here : (here : Bool) (below : Side → Bool) → parted false here below ≡ true → here ≡ true
  parted_here here below e = and_left here _ e

  parted_below : (here : Bool) (below : Side → Bool) → parted false here below ≡ true → (c : Side) → below c ≡ true
  parted_below here below e false = and_left (below left) (below right) (and_right here _ e)
  parted_below here below e true = and_right (below left) (below right) (and_right here _ e)

  pub joined_right : (n a b : ℕ) (p : Place) → join_at leaf_hash inner_hash n s next a b p ≡ true → RightFrom n s b p → RightFrom n s a p
  joined_right zero a b p e h = go (eqb a b) refl e
    where
      go : (t : Bool) → eqb a b ≡ t → parted t (Here a b p) (λ c. true) ≡ true → RightFrom zero s a p
      go true k f = subst (λ v. RightFrom zero s v p) (sym (eqb-true a b k)) h
      go false k f = and_right (eqb b 0 || eqb b next) _ (parted_here (Here a b p) (λ c. true) f)
  joined_right (suc n) a b p e h = go (eqb a b) refl e (λ c f. joined_right n (kid_of c (find a p s)) (kid_of c (find b p s)) (longer c p) f (h.1 c))
    where
      below : Side → Bool
      below c = join_at leaf_hash inner_hash n s next (kid_of c (find a p s)) (kid_of c (find b p s)) (longer c p)

      go : (t : Bool) → eqb a b ≡ t → parted t (Here a b p) below ≡ true → ((c : Side) → below c ≡ true → RightFrom n s (kid_of c (find a p s)) (longer c p)) →
          RightFrom (suc n) s a p
      go true k f sides = subst (λ v. RightFrom (suc n) s v p) (sym (eqb-true a b k)) h
      go false k f sides = (
        and_right (eqb b 0 || eqb b next) _ (parted_here (Here a b p) below f),
        λ c. sides c (parted_below (Here a b p) below f c),
      )
