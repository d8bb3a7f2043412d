-- One tree joins the next at a place exactly if what is looked at there is right, and both sides join. Assumes nothing.
use Prim.Native.Nat.{ℕ, zero, suc, ◌-◌, ◌<◌, ◌≤◌, max}
use native.Mathlib.Omega.{arith}
use mathlib.Core.Path.{◌≡◌, refl, ap, ap₂, sym, ◌∙◌}
use mathlib.Core.Bool.{Bool, true, false, ◌&&◌, ◌||◌}
use mathlib.Core.List.{List}
use lib.Dec.{eqb}
use borrow.Author.Tests.{eq-eqb, ne_eqb}
use Rattle.terms.specs.Bits.{Bytes, Side, left, right, Place, longer}
use Rattle.terms.specs.Records.{Slot}
use Rattle.meaning.specs.Store.{find}
use Rattle.nodehash.specs.Node.{leaf_hash, inner_hash}
use Rattle.place.specs.declared.Place as place
use Rattle.place.specs.Place.{place_of, Grown}
use Rattle.layout.specs.Stores.{store_of}
use Rattle.rescue_rules.specs.Joining.{kid_of, newer, newest_child, record_right, join_at}
use Rattle.rescue_join.specs.Join.{joins_here, floor_here, JoinSays}
use Rattle.std.specs.Prelude.{Some, None}

-- here by here
no_left : (a b : Bool) → a ≡ false → a && b ≡ false
no_left a b e = rw e

no_right : (a b : Bool) → b ≡ false → a && b ≡ false
no_right true b e = e
no_right false b e = refl

all_three : (a b c : Bool) → a ≡ true → b ≡ true → c ≡ true → a && (b && c) ≡ true
all_three a b c x y z = rw (x, y, z)

module _ (s : Bytes) (next : ℕ) (p : place.Place) (a b : ℕ) where
  abbrev S : List Slot
  S = (store_of s).slots

  abbrev Ahead : Bool
  Ahead = (eqb b 0 || eqb b next) && record_right leaf_hash inner_hash S a (place_of p) (find a (place_of p) S)

  -- the same version
  pub joins_same : a ≡ b → JoinSays s next p a b (Some 0)
  unfolding joins_here floor_here
  joins_same e = (go (256 - p.count), low (256 - p.count))
    where
      go : (n : ℕ) → join_at leaf_hash inner_hash n S next a b (place_of p) ≡ true
      go zero = rw (eq-eqb a b e)
      go (suc n) = rw (eq-eqb a b e)

      low : (n : ℕ) → newest_child n S a b (place_of p) ≡ 0
      low zero = refl
      low (suc n) = rw (eq-eqb a b e)

  module _ (f : a ≡ b → ⊥) where
    -- what is looked at here is wrong
    wrong : Ahead ≡ false → JoinSays s next p a b None
    unfolding joins_here
    wrong e = go (256 - p.count)
      where
        go : (n : ℕ) → join_at leaf_hash inner_hash n S next a b (place_of p) ≡ false
        go zero = rw (ne_eqb a b f) (no_left Ahead _ e)
        go (suc n) = rw (ne_eqb a b f) (no_left Ahead _ e)

    pub joins_apart : {t : Bool} → t ≡ (eqb b 0 || eqb b next) → t ≡ false → JoinSays s next p a b None
    joins_apart k e = wrong (no_left (eqb b 0 || eqb b next) _ (sym k ∙ e))

    module _ {t : Bool} (k : t ≡ (eqb b 0 || eqb b next)) (e : t ≡ true) {q : Bool} (judged : q ≡ record_right leaf_hash inner_hash S a (place_of p) (find a (place_of p) S)) where
      pub joins_wrong : q ≡ false → JoinSays s next p a b None
      joins_wrong g = wrong (no_right (eqb b 0 || eqb b next) _ (sym judged ∙ g))

      module _ (g : q ≡ true) where
        ahead : Ahead ≡ true
        ahead = rw (sym k ∙ e, sym judged ∙ g)

        -- at the place of a whole key
        pub joins_end : 256 ≤ p.count → JoinSays s next p a b (Some 0)
        unfolding joins_here floor_here
        joins_end h = let n : 256 - p.count ≡ 0 = omega arith in (go (256 - p.count) n, low (256 - p.count) n)
          where
            go : (n : ℕ) → n ≡ 0 → join_at leaf_hash inner_hash n S next a b (place_of p) ≡ true
            go zero z = rw (ne_eqb a b f) (all_three Ahead true true ahead refl refl)
            go (suc n) z = absurd (omega arith)

            low : (n : ℕ) → n ≡ 0 → newest_child n S a b (place_of p) ≡ 0
            low zero z = refl
            low (suc n) z = absurd (omega arith)

        module _ (short : p.count < 256) where
          abbrev m : ℕ
          m = 255 - p.count

          abbrev join_on : Side → Bool
          join_on c = join_at leaf_hash inner_hash m S next (kid_of c (find a (place_of p) S)) (kid_of c (find b (place_of p) S)) (longer c (place_of p))

          abbrev low_on : Side → ℕ
          low_on c = newest_child m S (kid_of c (find a (place_of p) S)) (kid_of c (find b (place_of p) S)) (longer c (place_of p))

          deeper : joins_here s next p a b ≡ (Ahead && (join_on left && join_on right))
          unfolding joins_here
          deeper = let n : 256 - p.count ≡ suc m = omega arith in ap (λ n. join_at leaf_hash inner_hash n S next a b (place_of p)) n ∙ rw (ne_eqb a b f)

          low_deeper : floor_here s p a b
              ≡ max (max (newer a (kid_of left (find a (place_of p) S))) (newer a (kid_of right (find a (place_of p) S)))) (max (low_on left) (low_on right))
          unfolding floor_here
          low_deeper = let n : 256 - p.count ≡ suc m = omega arith in ap (λ n. newest_child n S a b (place_of p)) n ∙ rw (ne_eqb a b f)

          -- one side
          module _ (c : Side) {l : place.Place} (grown : Grown c p l) {x y : ℕ} (kx : x ≡ kid_of c (find a (place_of p) S)) (ky : y ≡ kid_of c (find b (place_of p) S)) where
            n_is : 256 - l.count ≡ m
            n_is = omega (arith, grown.count)

            join_side : joins_here s next l x y ≡ join_on c
            unfolding joins_here
            join_side =
                ap₂ (λ n q. join_at leaf_hash inner_hash n S next x y q) n_is grown.place
                ∙ ap₂ (λ v w. join_at leaf_hash inner_hash m S next v w (longer c (place_of p))) kx ky

            low_side : floor_here s l x y ≡ low_on c
            unfolding floor_here
            low_side =
                ap₂ (λ n q. newest_child n S x y q) n_is grown.place ∙ ap₂ (λ v w. newest_child m S v w (longer c (place_of p))) kx ky

          module _ {l : place.Place} (gl : Grown left p l) {x y : ℕ} (kx : x ≡ kid_of left (find a (place_of p) S)) (ky : y ≡ kid_of left (find b (place_of p) S))
            where
              pub left_broken : JoinSays s next l x y None → JoinSays s next p a b None
              left_broken h = deeper ∙ no_right Ahead _ (no_left (join_on left) (join_on right) (sym (join_side left gl kx ky) ∙ h))

          module _ {r : place.Place} (gr : Grown right p r) {x y : ℕ} (kx : x ≡ kid_of right (find a (place_of p) S)) (ky : y ≡ kid_of right (find b (place_of p) S)) where
            pub right_broken : JoinSays s next r x y None → JoinSays s next p a b None
            right_broken h = deeper ∙ no_right Ahead _ (no_right (join_on left) (join_on right) (sym (join_side right gr kx ky) ∙ h))

            pub both_fit : {l : place.Place} (gl : Grown left p l) {u v : ℕ} (ku : u ≡ kid_of left (find a (place_of p) S)) (kv : v ≡ kid_of left (find b (place_of p) S)) →
                {i j d₁ d₂ d o z : ℕ} → JoinSays s next l u v (Some i) → JoinSays s next r x y (Some j) →
                d₁ ≡ newer a u → d₂ ≡ newer a x → d ≡ max d₁ d₂ → o ≡ max i j → z ≡ max d o → JoinSays s next p a b (Some z)
            both_fit gl ku kv hl hr pd pe pf po pz = (
              deeper ∙ all_three Ahead (join_on left) (join_on right) ahead (sym (join_side left gl ku kv) ∙ hl.0) (sym (join_side right gr kx ky) ∙ hr.0),
              low_deeper
                  ∙ ap₂ max (ap₂ max (ap (newer a) (sym ku) ∙ sym pd) (ap (newer a) (sym kx) ∙ sym pe) ∙ sym pf)
                  (ap₂ max (sym (low_side left gl ku kv) ∙ hl.1) (sym (low_side right gr kx ky) ∙ hr.1) ∙ sym po)
                  ∙ sym pz,
            )
