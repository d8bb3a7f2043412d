-- Finding a node: what `find` finds stands in a slot and is the node asked for; and where a subtree stands within a tree. Assumes nothing.
use Prim.Native.Nat.{ℕ, zero, suc, ◌<◌}
use native.Mathlib.Omega.{arith}
use native.Mathlib.Nat.{le_of_suc-le-suc, not-suc-le-zero}
use mathlib.Core.Path.{◌≡◌, refl, ap, sym, ◌∙◌, subst}
use mathlib.Core.Logic.{◌⊎◌, inl, inr}
use mathlib.Core.Bool.{Bool, true, false, cond, true≢false}
use mathlib.Core.List.{List, [], ◌∷◌}
use mathlib.Core.Option.{Option, none, some, none-ne-some}
use lib.ListN.{length, get_or}
use lib.Dec.{eqb}
use borrow.Author.Tests.{eqb-true, eq-eqb}
use Rattle.terms.specs.Bits.{Bytes, Side, left, right, Place, longer, same_place}
use Rattle.terms.specs.Records.{Grant, Body, leaf_body, inner_body, Record, Slot, free, used, spoiled, Store}
use Rattle.terms.proofs.Tests.{and_left, and_right, same_place_lem, place_same}
use Rattle.meaning.specs.Tree.{VTree, vnone, vleaf, vinner, top_version, kid}
use Rattle.meaning.specs.Store.{is_node, lowest, find, tree_below}
use Rattle.meaning.specs.Sound.{At, NodeOf}

pub is_node_eq : (v : ℕ) (p : Place) (r : Record) → is_node v p r ≡ true → (r.version ≡ v) × (r.place ≡ p)
unfolding is_node
is_node_eq v p r h =
    (eqb-true r.version v (and_left (eqb r.version v) (same_place r.place p) h), same_place_lem r.place p (and_right (eqb r.version v) (same_place r.place p) h))

pub is_node_refl : (r : Record) → is_node r.version r.place r ≡ true
unfolding is_node
is_node_refl r = rw (eq-eqb r.version r.version refl, place_same r.place)

pub free_used : {A : Type 0} (r : Record) → free ≡ used r → A
free_used r e = let z : ◌≡◌ {A = ℕ} 0 1 = cc in absurd (omega arith)

pub spoiled_used : {A : Type 0} (x : Bytes) (r : Record) → spoiled x ≡ used r → A
spoiled_used x r e = let z : ◌≡◌ {A = ℕ} 0 1 = cc in absurd (omega arith)

pub used_eq : (r q : Record) → used r ≡ used q → r ≡ q
used_eq r q e = cc

-- the lowest record that passes a test stands in a slot and passes it; if there is none, no record passes
pub data Lowest (s : List Slot) (test : Record → Bool) : Option Record → Type 0 where
  miss : ((i : ℕ) (r : Record) → i < length s → get_or s i free ≡ used r → test r ≡ false) → Lowest s test none
  hit : (i : ℕ) (r : Record) → i < length s → get_or s i free ≡ used r → test r ≡ true → Lowest s test (some r)

module _ (test : Record → Bool) where
  push : (y : Slot) (s : List Slot) (o : Option Record) → ((r : Record) → y ≡ used r → test r ≡ false) → Lowest s test o →
      Lowest (y ∷ s) test o
  push y s none k (miss f) = miss go
    where
      go : (i : ℕ) (r : Record) → i < length (y ∷ s) → get_or (y ∷ s) i free ≡ used r → test r ≡ false
      go zero r l e = k r e
      go (suc j) r l e = f j r (le_of_suc-le-suc l) e
  push y s (some q) k (hit i r l e n) = hit (suc i) r (omega arith) e n

  passes : (q : Record) (s : List Slot) (b : Bool) → test q ≡ b → Lowest s test (lowest test s) →
      Lowest (used q ∷ s) test (cond b (some q) (lowest test s))
  passes q s true e h = hit 0 q (omega arith) refl e
  passes q s false e h = push (used q) s _ (λ r u. rw (← used_eq q r u) e) h

  pub lowest_is : (s : List Slot) → Lowest s test (lowest test s)
  lowest_is [] = miss (λ i r l e. absurd (not-suc-le-zero l))
  lowest_is (free ∷ s) = push free s _ (λ r u. free_used r u) (lowest_is s)
  lowest_is (used q ∷ s) = passes q s _ refl (lowest_is s)
  lowest_is (spoiled x ∷ s) = push (spoiled x) s _ (λ r u. spoiled_used x r u) (lowest_is s)

-- what find finds stands in a slot, and is the node asked for
abbrev pub Hit : List Slot → ℕ → Place → Option Record → Type 0
Hit s v p o = Lowest s (is_node v p) o

pub hits : (s : List Slot) (v : ℕ) (p : Place) → Hit s v p (find v p s)
hits s v p = lowest_is (is_node v p) s

-- what is found stands in a slot, with the version and place asked for
pub found_in : (s : List Slot) (v : ℕ) (p : Place) (r : Record) → find v p s ≡ some r →
    (i : ℕ) × ((i < length s) × (get_or s i free ≡ used r)) × (r.version ≡ v) × (r.place ≡ p)
found_in s v p r e = go _ e (hits s v p)
  where
    go : (o : Option Record) → o ≡ some r → Hit s v p o →
        (i : ℕ) × ((i < length s) × (get_or s i free ≡ used r)) × (r.version ≡ v) × (r.place ≡ p)
    go none k (miss f) = absurd (none-ne-some r k)
    go (some q) k (hit i q' l g n) =
        let m : q' ≡ r = cc in
        let w = is_node_eq v p q' n in
        subst (λ x. (i : ℕ) × ((i < length s) × (get_or s i free ≡ used x)) × (x.version ≡ v) × (x.place ≡ p)) m (i, (l, g), w.0, w.1)

module _ (st : Store) where
  pub found_at : (v : ℕ) (p : Place) (r : Record) → find v p st.slots ≡ some r → (i : ℕ) × At st i r × (r.version ≡ v) × (r.place ≡ p)
  unfolding At
  found_at v p r e = found_in st.slots v p r e

  pub same_slot : (i j : ℕ) (r q : Record) → At st i r → At st j q → i ≡ j → r ≡ q
  unfolding At
  same_slot i j r q a b e = used_eq r q (sym a.1 ∙ ap (λ m. get_or st.slots m free) e ∙ b.1)

  -- where no two records share version and place, a record is found
  module _ (unique : (i j : ℕ) (r q : Record) → At st i r → At st j q → r.version ≡ q.version → r.place ≡ q.place → i ≡ j) where
    pub same_record_lem : (i j : ℕ) (r q : Record) → At st i r → At st j q → r.version ≡ q.version → r.place ≡ q.place → r ≡ q
    same_record_lem i j r q a b e f = same_slot i j r q a b (unique i j r q a b e f)

    pub at_find : (i : ℕ) (r : Record) → At st i r → find r.version r.place st.slots ≡ some r
    unfolding At
    at_find i r a = go _ refl (hits st.slots r.version r.place)
      where
        go : (o : Option Record) → find r.version r.place st.slots ≡ o → Hit st.slots r.version r.place o → o ≡ some r
        go none e (miss f) = absurd (true≢false (sym (is_node_refl r) ∙ f i r a.0 a.1))
        go (some q) e h = let w = found_at r.version r.place q e in ap some (same_record_lem w.0 i q r w.1 a w.2 w.3)

-- u stands at q in the tree t that stands at p
pub data Within (u : VTree) (q : Place) : VTree → Place → Type 0 where
  there : Within u q u q
  go_kid : (b : Side) {w : ℕ} {l r : VTree} {p : Place} → Within u q (kid b (vinner w l r)) (longer b p) → Within u q (vinner w l r) p

-- a tree that is there
pub data Some : VTree → Type 0 where
  some_leaf : {w : ℕ} {g : Grant} → Some (vleaf w g)
  some_inner : {w : ℕ} {l r : VTree} → Some (vinner w l r)

pub none_not : {A : Type 0} (u : VTree) → Some u → u ≡ vnone → A
none_not {A = A} vnone s e = elim s [ ]
none_not (vleaf w g) s e = let z : ◌≡◌ {A = ℕ} 0 1 = cc in absurd (omega arith)
none_not (vinner w l r) s e = let z : ◌≡◌ {A = ℕ} 0 1 = cc in absurd (omega arith)

-- the tree below a record is there, with the record's version
pub some_body : (w : ℕ) (o : Body) (below : Side → ℕ → VTree) → Some (tree_below w o below) × (top_version (tree_below w o below) ≡ w)
some_body w (leaf_body k x) below = (some_leaf, refl)
some_body w (inner_body l r) below = (some_inner, refl)

top_node : (u : VTree) (q : Place) → Some u → NodeOf (top_version u) q u q
top_node vnone q x' = elim x' [ ]
top_node (vleaf w g) q some_leaf = (refl, refl)
top_node (vinner w l r) q some_inner = inl (refl, refl)

-- a node of a tree is at its top or on a side
pub node_below : (b : Side) (v w : ℕ) (q p : Place) (l r : VTree) → NodeOf v q (kid b (vinner w l r)) (longer b p) → NodeOf v q (vinner w l r) p
node_below false v w q p l r h = inr (inl h)
node_below true v w q p l r h = inr (inr h)

pub node_cases : (v w : ℕ) (q p : Place) (l r : VTree) →
    NodeOf v q (vinner w l r) p → ((w ≡ v) × (p ≡ q)) ⊎ ((b : Side) × NodeOf v q (kid b (vinner w l r)) (longer b p))
node_cases v w q p l r (inl h) = inl h
node_cases v w q p l r (inr (inl h)) = inr (left, h)
node_cases v w q p l r (inr (inr h)) = inr (right, h)

pub within_node : {u : VTree} {q : Place} {t : VTree} {p : Place} → Some u → Within u q t p → NodeOf (top_version u) q t p
within_node {u} {q} s there = top_node u q s
within_node {u} {q} s (go_kid b {w = x} {l = l} {r = r} {p = p} w) = node_below b (top_version u) x q p l r (within_node s w)

pub within_trans : {a b : VTree} {x y : Place} {t : VTree} {p : Place} → Within a x b y → Within b y t p → Within a x t p
within_trans w there = w
within_trans w (go_kid b v) = go_kid b (within_trans w v)

-- a place is empty, or one bit longer than another
pub data Last : Place → Type 0 where
  empty : Last []
  one_more : (b : Side) (p : Place) → Last (longer b p)

pub last : (p : Place) → Last p
unfolding longer
last [] = empty
last (b ∷ p) = go b (last p)
  where
    go : (b : Bool) {q : Place} → Last q → Last (b ∷ q)
    go c empty = one_more c []
    go c (one_more d q) = one_more d (c ∷ q)
