-- A tree that stands in a store is what is read there: each node is found, and its record names its children. So a tree goes over to
-- another store that finds the same at its nodes; and it is the tree of the version at which its nodes live. Assumes nothing.
use Prim.Native.Nat.{ℕ, zero, suc, ◌+◌, ◌≤◌}
use native.Mathlib.Omega.{arith}
use mathlib.Core.Path.{◌≡◌, refl, ap, ap₂, sym, ◌∙◌, subst, subst₂}
use mathlib.Core.Logic.{inl, inr, ◌↔◌}
use mathlib.Core.Bool.{true, false}
use mathlib.Core.List.{List, [], ◌∷◌}
use mathlib.Core.Option.{Option, none, some, none-ne-some}
use lib.ListN.{length}
use borrow.Author.Tests.{ne_eqb}
use Rattle.terms.specs.Bits.{Bytes, Side, left, right, Place, longer}
use Rattle.terms.specs.Records.{grant, Body, leaf_body, Tally, Record, Slot, Store}
use Rattle.terms.specs.Form.{place_limit, RecordForm}
use Rattle.terms.proofs.Places.{length_longer}
use Rattle.meaning.specs.Tree.{VTree, vnone, vleaf, vinner, top_version, kid}
use Rattle.meaning.specs.Store.{find, root_of, tree_below, tree_found, tree_from, tree_at_version, child_of}
use Rattle.meaning.specs.Sound.{Found, CountsAre, Tallied, Stands, NodeOf, Lives}
use Rattle.meaning.proofs.Nodes.{node_top}
use Rattle.meaning.proofs.Roots.{root_none}
use Rattle.histories.proofs.Slots.{Has, find_has, Unique, unique_find, root_has, root_not}
use Rattle.histories.proofs.Writing.{contents}

-- every record is in form
abbrev pub Formed : List Slot → Type 0
Formed s = (r : Record) → Has r s → RecordForm r

contents_some : (o : Option Record) (r : Record) → contents o ≡ contents (some r) →
    (q : Record) × (o ≡ some q) × (q.body ≡ r.body) × (q.counts ≡ r.counts)
contents_some none r e = absurd (none-ne-some (r.version, r.body, r.counts) e)
contents_some (some q) r e =
    let p : ◌≡◌ {A = ℕ × Body × Tally} (q.version, q.body, q.counts) (r.version, r.body, r.counts) = cc in
    (q, refl, ap (λ x. x.1) p, ap (λ x. x.2) p)

-- a node of a standing tree's side is a node of the tree
pub kid_node : (b : Side) (w : ℕ) (q : Place) (t : VTree) (p : Place) → NodeOf w q (kid b t) (longer b p) → NodeOf w q t p
kid_node b w q vnone p n = absurd n
kid_node b w q (vleaf v g) p n = absurd n
kid_node false w q (vinner v l r) p n = inr (inl n)
kid_node true w q (vinner v l r) p n = inr (inr n)

-- version 0 is no child
read_zero : (n : ℕ) (s : List Slot) (p : Place) → tree_from n s 0 p ≡ vnone
read_zero zero s p = refl
read_zero (suc n) s p = refl

read_found : (n : ℕ) (s : List Slot) (v : ℕ) (p : Place) (r : Record) → find v p s ≡ some r → 1 ≤ v →
    tree_from (suc n) s v p ≡ tree_below v r.body (λ b w. tree_from n s w (longer b p))
read_found n s v p r e h =
    rw (ne_eqb v 0 (λ z. omega arith), e) (ap (λ w. tree_below w r.body (λ b u. tree_from n s u (longer b p))) (find_has v p s r e).1)

read_leaf : (n : ℕ) (s : List Slot) (v : ℕ) (p : Place) (r : Record) (k x : Bytes) → find v p s ≡ some r → 1 ≤ v →
    r.body ≡ leaf_body k x →
    tree_from n s v p ≡ vleaf v (grant k x)
read_leaf zero s v p r k x e h f =
    rw (ne_eqb v 0 (λ z. omega arith), e) (ap₂ (λ w c. tree_below w c (λ b u. vnone)) (find_has v p s r e).1 f)
read_leaf (suc n) s v p r k x e h f = read_found n s v p r e h ∙ ap (λ c. tree_below v c (λ b u. tree_from n s u (longer b p))) f

-- the tree of a version is read on from its root record as from any node
read_root_lem : (st : Store) (v n : ℕ) (r : Record) → 255 ≡ n → root_of st v ≡ some r → find r.version [] st.slots ≡ some r →
    1 ≤ r.version → tree_at_version st v ≡ tree_from (suc n) st.slots r.version []
unfolding tree_at_version longer
read_root_lem st v n r m e f h =
    ap (λ o. tree_found o (λ b w. tree_from 255 st.slots w (b ∷ []))) e
    ∙ ap (λ k. tree_below r.version r.body (λ b w. tree_from k st.slots w (b ∷ []))) m
    ∙ sym (read_found n st.slots r.version [] r f h)

-- the nodes of a tree are the records that live at v
abbrev pub Exact : List Slot → ℕ → VTree → Type 0
Exact s v t = (r : Record) → Has r s → NodeOf r.version r.place t [] ↔ Lives v r

-- two stores that find the same, but for retirement, at the nodes of a tree
unfoldable pub Alike : Store → Store → VTree → Place → Type 0
Alike st st' t p = (w : ℕ) (q : Place) → NodeOf w q t p → contents (find w q st'.slots) ≡ contents (find w q st.slots)

-- what is found is a record of the slots
pub found_record : (st : Store) (v : ℕ) (p : Place) (b : Body) → Found st v p b →
    (r : Record) × Has r st.slots × (r.version ≡ v) × (r.place ≡ p) × (r.body ≡ b)
unfolding Found
found_record st v p b f = let h = find_has v p st.slots f.0 f.1 in (f.0, h.0, h.1, h.2, f.2)

found_version : (st : Store) → Formed st.slots → (v : ℕ) (p : Place) (b : Body) → Found st v p b → 1 ≤ v
found_version st z v p b f = let r = found_record st v p b f in let w = (z r.0 r.1).versioned in omega (arith, r.2)

pub inner_short : (st : Store) → Formed st.slots → (v : ℕ) (p : Place) (b : Body) → Found st v p b → length p ≤ place_limit b
inner_short st z v p b f =
    let r = found_record st v p b f in subst₂ (λ q c. length q ≤ place_limit c) r.3 r.4 (z r.0 r.1).short

module _ (leaf_hash inner_hash : Bytes → Bytes → Bytes) where
  -- what stands is read
  pub reads : (st : Store) → Formed st.slots → (n : ℕ) (p : Place) (t : VTree) → length p + n ≡ 256 → Stands leaf_hash inner_hash st p t →
      tree_from n st.slots (top_version t) p ≡ t
  unfolding Found child_of
  reads st z n p vnone h s = read_zero n st.slots p
  reads st z n p (vleaf v g) h s =
      read_leaf n st.slots v p s.0.0 g.key g.value s.0.1 (found_version st z v p _ s.0) s.0.2
  reads st z zero p (vinner v l r) h s = absurd (omega (arith, inner_short st z v p _ s.0))
  reads st z (suc n) p (vinner v l r) h s =
      read_found n st.slots v p s.0.0 s.0.1 (found_version st z v p _ s.0)
      ∙ ap (λ c. tree_below v c (λ b w. tree_from n st.slots w (longer b p))) s.0.2
      ∙ ap₂ (vinner v) (reads st z n (longer left p) l (omega (arith, length_longer left p)) s.2)
      (reads st z n (longer right p) r (omega (arith, length_longer right p)) s.3)

  found_alike : (st st' : Store) (v : ℕ) (p : Place) (b : Body) → contents (find v p st'.slots) ≡ contents (find v p st.slots) →
      Found st v p b → Found st' v p b
  unfolding Found
  found_alike st st' v p b e (r, f, g) = let q = contents_some _ r (e ∙ ap contents f) in (q.0, q.1, q.2 ∙ g)

  tallied_alike : (st st' : Store) → st.form ≡ st'.form → (v : ℕ) (p : Place) (c : Tally) →
      contents (find v p st'.slots) ≡ contents (find v p st.slots) → Tallied st v p c → Tallied st' v p c
  unfolding Tallied
  tallied_alike st st' same v p c e (r, f, g) =
      let q = contents_some _ r (e ∙ ap contents f) in
      (q.0, q.1, subst₂ (λ x y. CountsAre x y c) same (sym q.3) g)

  pub stands_alike : (st st' : Store) → st.form ≡ st'.form → (p : Place) (t : VTree) → Alike st st' t p → Stands leaf_hash inner_hash st p t →
      Stands leaf_hash inner_hash st' p t
  unfolding Alike
  stands_alike st st' same p vnone a s = tt
  stands_alike st st' same p (vleaf v g) a s = (found_alike st st' v p _ (a v p (refl, refl)) s.0, s.1)
  stands_alike st st' same p (vinner v l r) a s = (
    found_alike st st' v p _ (a v p (inl (refl, refl))) s.0,
    s.1,
    stands_alike st st' same (longer left p) l (λ w q n. a w q (inr (inl n))) s.2,
    stands_alike st st' same (longer right p) r (λ w q n. a w q (inr (inr n))) s.3,
    tallied_alike st st' same v p _ (a v p (inl (refl, refl))) s.4,
  )

  -- a node of a standing tree is found
  pub node_found : (st : Store) (w : ℕ) (q p : Place) (t : VTree) → Stands leaf_hash inner_hash st p t → NodeOf w q t p →
      (r : Record) × Has r st.slots × (r.version ≡ w) × (r.place ≡ q)
  node_found st w q p vnone s n = absurd n
  node_found st w q p (vleaf v g) s n = let r = found_record st v p _ s.0 in (r.0, r.1, r.2 ∙ n.0, r.3 ∙ n.1)
  node_found st w q p (vinner v l r) s (inl n) = let r = found_record st v p _ s.0 in (r.0, r.1, r.2 ∙ n.0, r.3 ∙ n.1)
  node_found st w q p (vinner v l r) s (inr (inl n)) = node_found st w q (longer left p) l s.2 n
  node_found st w q p (vinner v l r) s (inr (inr n)) = node_found st w q (longer right p) r s.3 n

  -- a tree that stands is that of v, where its nodes are the records that live at v: its top is the one root among them
  pub reads_root : (st : Store) → Formed st.slots → Unique st.slots → (v : ℕ) (t : VTree) → Stands leaf_hash inner_hash st [] t →
      Exact st.slots v t → tree_at_version st v ≡ t
  reads_root st z u v t s exact = go _ refl
    where
      lives_not : (n : NodeOf (top_version t) [] t []) → root_of st v ≡ none → ⊥
      lives_not n e =
          let (q, h, w, p) = node_found st (top_version t) [] [] t s n in
          root_not st v e q h p ((exact q h).0 (subst₂ (λ x y. NodeOf x y t []) (sym w) (sym p) n))

      empty : (o : VTree) → o ≡ t → root_of st v ≡ none → o ≡ vnone
      empty vnone k e = refl
      empty (vleaf w g) k e = absurd (lives_not (subst (λ x. NodeOf (top_version x) [] x []) k (refl, refl)) e)
      empty (vinner w l r) k e = absurd (lives_not (subst (λ x. NodeOf (top_version x) [] x []) k (inl (refl, refl))) e)

      go : (o : Option Record) → root_of st v ≡ o → tree_at_version st v ≡ t
      go none e = root_none st v e ∙ sym (empty t refl e)
      go (some r) e =
          let (h, p, l) = root_has st v r e in
          let top = node_top r.version t [] (subst (λ q. NodeOf r.version q t []) p ((exact r h).1 l)) in
          let found = ap (λ q. find r.version q st.slots) (sym p) ∙ unique_find st.slots r u h in
          read_root_lem st v 255 r refl e found (z r h).versioned.0
          ∙ ap (λ w. tree_from 256 st.slots w []) (sym top.1) ∙ reads st z 256 [] t refl s

  -- what stands at a child
  pub kid_stands : (b : Side) (st : Store) (p : Place) (t : VTree) → Stands leaf_hash inner_hash st p t →
      Stands leaf_hash inner_hash st (longer b p) (kid b t)
  kid_stands b st p vnone s = tt
  kid_stands b st p (vleaf v g) s = tt
  kid_stands false st p (vinner v l r) s = s.2
  kid_stands true st p (vinner v l r) s = s.3
