-- The floor: a child newer than its parent forbids every run that begins before the child's version, in whatever tree of the run it is
-- met; and a tree whose root is not above v, and in which no child newer than its parent is above v, holds no version above v. Assumes
-- nothing.
use Prim.Native.Nat.{ℕ, zero, suc, ◌+◌, ◌-◌, ◌≤◌, ◌<◌, max}
use native.Mathlib.Omega.{arith}
use mathlib.Core.Path.{◌≡◌, refl, ap, sym, ◌∙◌, subst, subst₂}
use mathlib.Core.Logic.{◌⊎◌, inl, inr}
use mathlib.Core.Bool.{Bool, true, false, cond}
use mathlib.Core.List.{List, []}
use mathlib.Core.Option.{Option, none, some}
use lib.ListN.{length}
use lib.Dec.{eqb, ltb, leb}
use borrow.Author.Tests.{eqb-true, ltb-true, ltb-false, leb-true, leb-false}
use Rattle.terms.specs.Bits.{Bytes, Side, left, right, Place, longer}
use Rattle.terms.specs.Records.{Body, leaf_body, inner_body, Record, Slot}
use Rattle.terms.proofs.Places.{length_longer}
use Rattle.meaning.specs.Tree.{VTree, vnone, vleaf, vinner, top_version, kid}
use Rattle.meaning.specs.Store.{find, tree_from, tree_found, tree_below}
use Rattle.meaning.specs.Sound.{NodeOf, Stands}
use Rattle.meaning.proofs.Finding.{Within, there, go_kid, Some, some_leaf, some_inner, within_node, within_trans, some_body}
use Rattle.histories.proofs.Slots.{find_has}
use Rattle.histories.proofs.Standing.{Formed, inner_short, reads, kid_stands}
use Rattle.local.proofs.Slots.{kids_from}
use Rattle.local.proofs.Above.{subtree}
use Rattle.rescue_rules.specs.Rescue.{source_tree}
use Rattle.rescue_rules.specs.Joining.{source, Chain, kid_of, newer, parted_most, newest_child}
use Rattle.rescue_laws.proofs.Right.{tree_found_lem, kid_found, RightAt, right_parts}
use Rattle.rescue_laws.proofs.Runs.{goes_back_from}

newer_cases : (a c : ℕ) → ((a < c) × (newer a c ≡ c)) ⊎ ((c ≤ a) × (newer a c ≡ 0))
unfolding newer
newer_cases a c = go _ refl
  where
    go : (b : Bool) → ltb a c ≡ b → ((a < c) × (cond b c 0 ≡ c)) ⊎ ((c ≤ a) × (cond b c 0 ≡ 0))
    go true e = inl (ltb-true a c e, refl)
    go false e = inr (ltb-false a c e, refl)

-- the greatest version of a child newer than its parent
abbrev pub steep : VTree → ℕ
steep vnone = 0
steep (vleaf v g) = 0
steep (vinner v l r) = max (max (newer v (top_version l)) (newer v (top_version r))) (max (steep l) (steep r))

not_above_lem : (v c u : ℕ) → v ≤ u → newer v c ≤ u → c ≤ u
not_above_lem v c u a b = elim (newer_cases v c) [ inl e ↦ omega (arith, e.1) | inr e ↦ omega (arith, e.0) ]

pub nodes_not_above : (w : ℕ) (q : Place) (t : VTree) (p : Place) (u : ℕ) → top_version t ≤ u → steep t ≤ u → NodeOf w q t p → w ≤ u
nodes_not_above w q vnone p u a b n = absurd n
nodes_not_above w q (vleaf v g) p u a b n = omega (arith, n.0)
nodes_not_above w q (vinner v l r) p u a b (inl n) = omega (arith, n.0)
nodes_not_above w q (vinner v l r) p u a b (inr (inl n)) =
    nodes_not_above w q l (longer left p) u (not_above_lem v (top_version l) u a (omega arith)) (omega arith) n
nodes_not_above w q (vinner v l r) p u a b (inr (inr n)) =
    nodes_not_above w q r (longer right p) u (not_above_lem v (top_version r) u a (omega arith)) (omega arith) n

no_newer : (v : ℕ) → newer v 0 ≡ 0
no_newer v = elim (newer_cases v 0) [ inl e ↦ e.1 | inr e ↦ e.1 ]

kid_steep : (c : Side) (t : VTree) → steep (kid c t) ≤ steep t
kid_steep c vnone = omega arith
kid_steep c (vleaf v g) = omega arith
kid_steep false (vinner v l r) = omega arith
kid_steep true (vinner v l r) = omega arith

top_steep : (c : Side) (t : VTree) → newer (top_version t) (top_version (kid c t)) ≤ steep t
top_steep c vnone = omega (arith, no_newer 0)
top_steep c (vleaf v g) = omega (arith, no_newer v)
top_steep false (vinner v l r) = omega arith
top_steep true (vinner v l r) = omega arith

steep_parts : (t : VTree) →
    steep t ≤ max (max (newer (top_version t) (top_version (kid left t))) (newer (top_version t) (top_version (kid right t)))) (max (steep (kid left t)) (steep (kid right t)))
steep_parts vnone = omega arith
steep_parts (vleaf v g) = omega arith
steep_parts (vinner v l r) = omega arith

-- the same by parts, for numbers alone
most : {x m : ℕ} (a b c d : ℕ) → x ≤ max (max a b) (max c d) → a ≤ m → b ≤ m → c ≤ m → d ≤ m → x ≤ m
most a b c d h i j k l = omega arith

to_left : (a i j m : ℕ) → a ≤ max i m → a ≤ max (max i j) m
to_left a i j m h = omega arith

to_right : (a i j m : ℕ) → a ≤ max j m → a ≤ max (max i j) m
to_right a i j m h = omega arith

there_in : (a i m : ℕ) → a ≤ i → a ≤ max i m
there_in a i m h = omega arith

most_of : {x : ℕ} (a b c d i j k l m : ℕ) → x ≤ max (max a b) (max c d) → a ≤ i → b ≤ j → c ≤ max k m → d ≤ max l m →
    x ≤ max (max (max i j) (max k l)) m
most_of a b c d i j k l m h e f g o =
    most a b c d h (to_left a (max i j) (max k l) m (to_left a i j m (there_in a i m e)))
    (to_left b (max i j) (max k l) m (to_right b i j m (there_in b j m f)))
    (to_right c (max i j) (max k l) m (to_left c k l m g)) (to_right d (max i j) (max k l) m (to_right d k l m o))

none_of : {x m : ℕ} → x ≡ 0 → x ≤ m
none_of e = omega arith

module _ (s : List Slot) (z : Formed s) where
  -- where a record is found, the tree that is read has its version
  pub top_found : (n v : ℕ) (p : Place) (r : Record) → find v p s ≡ some r → top_version (tree_from n s v p) ≡ v
  top_found n v p r e =
      ap top_version (tree_found_lem s z n v p ∙ ap (λ o. tree_found o (kids_from n s p)) e) ∙ (some_body r.version r.body (kids_from n s p)).1 ∙ (find_has v p s r e).1

  -- a tree that is read has the version asked for, or is none
  top_or_none : (n v : ℕ) (p : Place) → (top_version (tree_from n s v p) ≡ v) ⊎ (tree_from n s v p ≡ vnone)
  top_or_none n v p = go (find v p s) refl
    where
      go : (o : Option Record) → find v p s ≡ o → (top_version (tree_from n s v p) ≡ v) ⊎ (tree_from n s v p ≡ vnone)
      go none e = inr (tree_found_lem s z n v p ∙ ap (λ o. tree_found o (kids_from n s p)) e)
      go (some r) e = inl (top_found n v p r e)

  newer_read : (a n v : ℕ) (p : Place) → newer a (top_version (tree_from n s v p)) ≤ newer a v
  newer_read a n v p = elim (top_or_none n v p) [
    | inl e ↦ rw e (omega arith)
    | inr e ↦ rw e (omega (arith, no_newer a))
  ]

  kid_read : (n v : ℕ) (p : Place) (c : Side) → kid c (tree_from (suc n) s v p) ≡ tree_from n s (kid_of c (find v p s)) (longer c p)
  kid_read n v p c = ap (kid c) (tree_found_lem s z (suc n) v p) ∙ kid_found s z (suc n) p c (find v p s)

  shallow : (v : ℕ) (p : Place) → steep (tree_from 0 s v p) ≡ 0
  shallow v p = ap steep (tree_found_lem s z 0 v p) ∙ go (find v p s)
    where
      body : (w : ℕ) (c : Body) → steep (tree_below w c (λ b x. vnone)) ≡ 0
      body w (leaf_body k x) = refl
      body w (inner_body c d) = omega (arith, no_newer w)

      go : (o : Option Record) → steep (tree_found o (kids_from 0 s p)) ≡ 0
      go none = refl
      go (some r) = body r.version r.body

  -- one place of two trees: what stands here, and below on a side
  abbrev here : ℕ → Place → ℕ
  here a p = max (newer a (kid_of left (find a p s))) (newer a (kid_of right (find a p s)))

  abbrev below : ℕ → ℕ → ℕ → Place → Side → ℕ
  below n a b p c = newest_child n s (kid_of c (find a p s)) (kid_of c (find b p s)) (longer c p)

  top_above : (n a : ℕ) (p : Place) → top_version (tree_from (suc n) s a p) ≡ a → (c : Side) →
      newer (top_version (tree_from (suc n) s a p)) (top_version (kid c (tree_from (suc n) s a p))) ≤ newer a (kid_of c (find a p s))
  top_above n a p e c = rw (e, kid_read n a p c) (newer_read a n (kid_of c (find a p s)) (longer c p))

  steep_step : (n a b : ℕ) (p : Place) →
      ((c : Side) → steep (kid c (tree_from (suc n) s a p)) ≤ max (below n a b p c) (steep (tree_from (suc n) s b p))) →
      (k : Bool) → eqb a b ≡ k →
      steep (tree_from (suc n) s a p) ≤ max (parted_most k (here a p) (below n a b p)) (steep (tree_from (suc n) s b p))
  steep_step n a b p side true e = let same = ap (λ v. steep (tree_from (suc n) s v p)) (eqb-true a b e) in omega (arith, same)
  steep_step n a b p side false e = elim (top_or_none (suc n) a p) [
    | inl h ↦ most_of _ _ _ _ _ _ _ _ _ (steep_parts (tree_from (suc n) s a p)) (top_above n a p h left) (top_above n a p h right) (side left) (side right)
    | inr h ↦ none_of (ap steep h)
  ]

  -- each such child of the first tree is met, or stands in the second
  pub steep_met : (n a b : ℕ) (p : Place) → steep (tree_from n s a p) ≤ max (newest_child n s a b p) (steep (tree_from n s b p))
  steep_met zero a b p = omega (arith, shallow a p)
  steep_met (suc n) a b p =
      steep_step n a b p
      (λ c. omega (
        arith,
        ap steep (kid_read n a p c),
        steep_met n (kid_of c (find a p s)) (kid_of c (find b p s)) (longer c p),
        ap steep (kid_read n b p c),
        kid_steep c (tree_from (suc n) s b p),
      ))
      (eqb a b) refl

  module _ (leaf_hash inner_hash : Bytes → Bytes → Bytes) where
    most_below : (k : Bool) (n a b m : ℕ) (p : Place) → ((c : Side) → newer a (kid_of c (find a p s)) ≤ m) →
        ((c : Side) → below n a b p c ≤ m) →
        parted_most k (here a p) (below n a b p) ≤ m
    most_below true n a b m p top side = omega arith
    most_below false n a b m p top side = omega (arith, top left, top right, side left, side right)

    abbrev Right : ℕ → ℕ → Place → Type 0
    Right n v p = RightAt leaf_hash inner_hash s z v p (tree_from n s v p)

    kids_right : (n a : ℕ) (p : Place) → length p + suc n ≡ 256 → Right (suc n) a p → (c : Side) →
        Right n (kid_of c (find a p s)) (longer c p)
    kids_right n a p len r = ((right_parts leaf_hash inner_hash s z (suc n) a p len).0 r).1

    top_met : (n a : ℕ) (p : Place) → length p + suc n ≡ 256 → Right (suc n) a p → (c : Side) →
        newer a (kid_of c (find a p s)) ≤ steep (tree_from (suc n) s a p)
    top_met n a p len r c =
        subst₂ (λ x y. newer x y ≤ steep (tree_from (suc n) s a p)) r.version (ap top_version (kid_read n a p c) ∙ (kids_right n a p len r c).version)
        (top_steep c (tree_from (suc n) s a p))

    -- what is met stands in the first tree
    pub met_steep : (n a b : ℕ) (p : Place) → length p + n ≡ 256 → Right n a p → newest_child n s a b p ≤ steep (tree_from n s a p)
    met_steep zero a b p len r = omega arith
    met_steep (suc n) a b p len r =
        most_below (eqb a b) n a b (steep (tree_from (suc n) s a p)) p (top_met n a p len r)
        (λ c. omega (
          arith,
          met_steep n (kid_of c (find a p s)) (kid_of c (find b p s)) (longer c p) (omega (arith, length_longer c p)) (kids_right n a p len r c),
          ap steep (kid_read n a p c),
          kid_steep c (tree_from (suc n) s a p),
        ))

module _ (leaf_hash inner_hash : Bytes → Bytes → Bytes) (s : List Slot) (z : Formed s) (f n : ℕ) (chain : Chain leaf_hash inner_hash s f n)
    (v : ℕ) (low : f ≤ v) (high : v ≤ f + n) where
  within_stands : {u : VTree} {q : Place} {t : VTree} {p : Place} → Within u q t p →
      Stands leaf_hash inner_hash (source s) p t → Stands leaf_hash inner_hash (source s) q u
  within_stands there h = h
  within_stands (go_kid b {w = x} {l = l} {r = r} {p = p} w) h = within_stands w (kid_stands leaf_hash inner_hash b (source s) p (vinner x l r) h)

  -- two subtrees of standing trees at one node are the same
  same_subtree : (q : Place) (w : ℕ) (l r u : VTree) → Stands leaf_hash inner_hash (source s) q (vinner w l r) →
      Stands leaf_hash inner_hash (source s) q u →
      top_version u ≡ w → u ≡ vinner w l r
  same_subtree q w l r u a b e =
      let short : length q ≤ 255 = inner_short (source s) z w q _ a.0 in
      let m = 256 - length q in
      let len : length q + m ≡ 256 = omega arith in
      sym (reads leaf_hash inner_hash (source s) z m q u len b) ∙ ap (λ x. tree_from m s x q) e ∙ reads leaf_hash inner_hash (source s) z m q (vinner w l r) len a

  some_of : (t : VTree) → 1 ≤ top_version t → Some t
  some_of vnone h = absurd (omega arith)
  some_of (vleaf v g) h = some_leaf
  some_of (vinner v l r) h = some_inner

  -- a child newer than its parent, in a tree of the run, is not above the first version
  edge : (b : Side) (w : ℕ) (l r : VTree) (q : Place) → Within (vinner w l r) q (source_tree s v) [] →
      newer w (top_version (kid b (vinner w l r))) ≤ f
  edge b w l r q i = elim (newer_cases w c) [ inl e ↦ go e.0 e.1 _ refl | inr e ↦ omega (arith, e.1) ]
    where
      c : ℕ
      c = top_version (kid b (vinner w l r))

      child_in_lem : (t : VTree) → w < c → Within (vinner w l r) q t [] → NodeOf c (longer b q) t []
      child_in_lem t h k = within_node (some_of (kid b (vinner w l r)) (omega arith)) (within_trans (go_kid b there) k)

      go : w < c → newer w c ≡ c → (k : Bool) → leb c f ≡ k → newer w c ≤ f
      go h e true k = omega (arith, leb-true c f k)
      go h e false k =
          let below = leb-false c f k in
          let here : c ≤ v = (chain.good v low high).versions c (longer b q) (child_in_lem (source_tree s v) h i) in
          let x = max f w in
          let back : NodeOf w q (source_tree s x) [] = goes_back_from leaf_hash inner_hash s f n chain w q x v (omega arith) (omega arith) high (omega arith) (within_node some_inner i) in
          let d = subtree w q (source_tree s x) [] back in
          let good = chain.good x (omega arith) (omega arith) in
          let same : d.tree ≡ vinner w l r = same_subtree q w l r d.tree (within_stands i (chain.good v low high).stands) (within_stands d.within good.stands) d.version in
          let there' : c ≤ x = good.versions c (longer b q) (child_in_lem (source_tree s x) h (subst (λ u. Within u q (source_tree s x) []) same d.within)) in
          absurd (omega arith)

  steep_within : (u : VTree) (q : Place) → Within u q (source_tree s v) [] → steep u ≤ f
  steep_within vnone q i = omega arith
  steep_within (vleaf w g) q i = omega arith
  steep_within (vinner w l r) q i =
      omega (
        arith,
        edge left w l r q i,
        edge right w l r q i,
        steep_within l (longer left q) (within_trans (go_kid left there) i),
        steep_within r (longer right q) (within_trans (go_kid right there) i),
      )

  pub chain_steep : steep (source_tree s v) ≤ f
  chain_steep = steep_within (source_tree s v) [] there
