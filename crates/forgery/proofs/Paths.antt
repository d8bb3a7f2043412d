-- Without a finding, a path that leads to a tree's hash is a path of the tree: from the top, the node at each step has the message that was
-- hashed there, so its children have the hashes named there. Assumes nothing.
use Prim.Native.Nat.{ℕ}
use native.Mathlib.Omega.{arith}
use mathlib.Core.Path.{◌≡◌, refl, ap, ap₂, sym, ◌∙◌, subst}
use mathlib.Core.Logic.{◌⊎◌, inl, inr}
use mathlib.Core.Bool.{Bool, true, false, cond, not, false≢true, true≢false}
use mathlib.Core.List.{List, [], ◌∷◌, ◌++◌, append-nil, append_assoc, head-eq_of_cons-eq, tail-eq_of_cons-eq}
use lib.ListN.{length}
use Rattle.terms.specs.Bits.{Bytes, Side, left, right, All}
use Rattle.terms.specs.Records.{Grant, grant, Step, Presence, zeros}
use Rattle.terms.specs.Form.{GrantForm}
use Rattle.terms.proofs.Lists.{all_map}
use Rattle.meaning.specs.Tree.{Tree, none, leaf, inner, grants, hash}
use Rattle.meaning.specs.Checking.{parent_hash, climb}
use Rattle.checker.specs.Holding.{Outermost}
use Rattle.proofrecords.specs.ProofBytes.{StepForm, PresenceForm}
use Rattle.forgery.specs.Messages.{leaf_message, inner_message, leaf_hash, inner_hash, tree_messages, parent_message, upwards, path_messages}
use Rattle.forgery.specs.Finding.{Among}
use Rattle.forgery.proofs.Lists.{Within, among_left, among_right, parts_same, all_between}
use Rattle.forgery.proofs.Search.{Clean}

-- the child on a side
abbrev pub kid : Side → Tree → Tree
kid b none = none
kid b (leaf g) = none
kid false (inner l r) = l
kid true (inner l r) = r

-- the node from which the steps lead up to the top of a tree
abbrev pub below : List Step → Tree → Tree
below [] t = t
below (s ∷ steps) t = kid s.side (below steps t)

-- an inner node
abbrev pub Forks : Tree → Type 0
Forks none = ⊥
Forks (leaf g) = ⊥
Forks (inner l r) = Unit {0}

-- the grants on the left of the steps, and on their right
abbrev pub lefts : List Step → Tree → List Grant
lefts [] t = []
lefts (s ∷ steps) t = lefts steps t ++ cond s.side (grants (kid left (below steps t))) []

abbrev pub rights : List Step → Tree → List Grant
rights [] t = []
rights (s ∷ steps) t = cond s.side [] (grants (kid right (below steps t))) ++ rights steps t

opened : (b : Side) (xs : List Grant) (u : Tree) (ys : List Grant) → Forks u →
    xs ++ (grants u ++ ys)
    ≡ (xs ++ cond b (grants (kid left u)) []) ++ (grants (kid b u) ++ (cond b [] (grants (kid right u)) ++ ys))
opened b xs none ys h = absurd h
opened b xs (leaf g) ys h = absurd h
opened false xs (inner l r) ys h = ap₂ ◌++◌ (sym (append-nil xs)) (append_assoc (grants l) (grants r) ys)
opened true xs (inner l r) ys h =
    ap (xs ++◌) (append_assoc (grants l) (grants r) ys) ∙ sym (append_assoc xs (grants l) (grants r ++ ys))

pub below_append : (xs ys : List Step) (t : Tree) → below (xs ++ ys) t ≡ below xs (below ys t)
below_append [] ys t = refl
below_append (x ∷ xs) ys t = ap (kid x.side) (below_append xs ys t)

module _ (H : Bytes → Bytes) where
  abbrev hash_of : Tree → Bytes
  hash_of t = hash (leaf_hash H) (inner_hash H) t

  -- each step is from a child of an inner node, and names the hash of the other
  abbrev pub Real : List Step → Tree → Type 0
  Real [] t = Unit {0}
  Real (s ∷ steps) t = Forks (below steps t) × (hash_of (kid (not s.side) (below steps t)) ≡ s.sibling) × Real steps t

  pub around : (steps : List Step) (t : Tree) → Real steps t → grants t ≡ lefts steps t ++ (grants (below steps t) ++ rights steps t)
  around [] t h = sym (append-nil (grants t))
  around (s ∷ steps) t h = around steps t h.2 ∙ opened s.side (lefts steps t) (below steps t) (rights steps t) h.0

  pub real_append : (xs ys : List Step) (t : Tree) → Real (xs ++ ys) t → Real xs (below ys t) × Real ys t
  real_append [] ys t h = (tt, h)
  real_append (x ∷ xs) ys t h =
      let r = real_append xs ys t h.2 in
      let same = below_append xs ys t in (
        (subst Forks same h.0, ap (λ u. hash_of (kid (not x.side) u)) (sym same) ∙ h.1, r.0),
        r.1,
      )

  -- messages below
  kid_messages : (b : Side) (t : Tree) → Within (tree_messages H (kid b t)) (tree_messages H t)
  kid_messages b none m h = absurd h
  kid_messages b (leaf g) m h = absurd h
  kid_messages false (inner l r) m h = inr (among_left (tree_messages H l) (tree_messages H r) m h)
  kid_messages true (inner l r) m h = inr (among_right (tree_messages H l) (tree_messages H r) m h)

  pub below_messages : (steps : List Step) (t : Tree) → Within (tree_messages H (below steps t)) (tree_messages H t)
  below_messages [] t m h = h
  below_messages (s ∷ steps) t m h = below_messages steps t m (kid_messages s.side (below steps t) m h)

  -- the hash of the parent's message is the parent's hash
  parent_hash_lem : (h : Bytes) (s : Step) → H (parent_message H h s) ≡ parent_hash (leaf_hash H) (inner_hash H) h s
  parent_hash_lem h s = go s.side
    where
      go : (b : Side) →
          H (cond b (inner_message s.sibling h) (inner_message h s.sibling))
          ≡ cond b (inner_hash H s.sibling h) (inner_hash H h s.sibling)
      go true = refl
      go false = refl

  module _ (hash32 : (m : Bytes) → length (H m) ≡ 32) where
    pub hash_32 : (t : Tree) → length (hash_of t) ≡ 32
    unfolding zeros
    hash_32 none = refl
    hash_32 (leaf g) = hash32 (leaf_message g.key g.value)
    hash_32 (inner l r) = hash32 (inner_message (hash_of l) (hash_of r))

    -- a node with this message
    abbrev TopIs : Bytes → Tree → Type 0
    TopIs m none = ⊥
    TopIs m (leaf g) = leaf_message g.key g.value ≡ m
    TopIs m (inner l r) = inner_message (hash_of l) (hash_of r) ≡ m

    -- a node with the message of a parent has the two hashes for its children
    parted : (b : Side) (h x : Bytes) (u : Tree) → length h ≡ 32 → length x ≡ 32 → TopIs (cond b (inner_message x h) (inner_message h x)) u →
        Forks u × (hash_of (kid b u) ≡ h) × (hash_of (kid (not b) u) ≡ x)
    parted b h x none lh lx e = absurd e
    parted false h x (leaf g) lh lx e = let z : ◌≡◌ {A = ℕ} 1 0 = head-eq_of_cons-eq e in absurd (omega arith)
    parted true h x (leaf g) lh lx e = let z : ◌≡◌ {A = ℕ} 1 0 = head-eq_of_cons-eq e in absurd (omega arith)
    parted false h x (inner l r) lh lx e =
        let w = parts_same (hash_of l) (hash_of r) h x (hash_32 l) lh (tail-eq_of_cons-eq e) in (tt, w.0, w.1)
    parted true h x (inner l r) lh lx e =
        let w = parts_same (hash_of l) (hash_of r) x h (hash_32 l) lx (tail-eq_of_cons-eq e) in (tt, w.1, w.0)

    -- a node with the message of a leaf is that leaf
    leaf_end : (k x : Bytes) (u : Tree) → All GrantForm (grants u) → length k ≡ 32 → TopIs (leaf_message k x) u → u ≡ leaf (grant k x)
    leaf_end k x none a lk e = absurd e
    leaf_end k x (leaf g) a lk e =
        let w = parts_same g.key g.value k x a.0.0.0 lk (tail-eq_of_cons-eq e) in ap₂ (λ i y. leaf (grant i y)) w.0 w.1
    leaf_end k x (inner l r) a lk e = let z : ◌≡◌ {A = ℕ} 0 1 = head-eq_of_cons-eq e in absurd (omega arith)

    module _ (nodes checked : List Bytes) (clean : Clean H nodes checked) where
      same_top : (m : Bytes) (u : Tree) → Within (tree_messages H u) nodes → Among m checked → hash_of u ≡ H m → TopIs m u
      same_top m none w h e = clean.checked_not_zero m h (sym e)
      same_top m (leaf g) w h e = clean.same (leaf_message g.key g.value) m (w _ (inl refl)) h e
      same_top m (inner l r) w h e = clean.same (inner_message (hash_of l) (hash_of r)) m (w _ (inl refl)) h e

      -- the message from which a path leads up is that of the node there, and the path is the tree's
      reach : (t : Tree) → Within (tree_messages H t) nodes → (m : Bytes) (steps : List Step) → All (λ s. length s.sibling ≡ 32) steps →
          Within (upwards H m steps) checked → climb (leaf_hash H) (inner_hash H) (H m) steps ≡ hash_of t →
          TopIs m (below steps t) × Real steps t
      reach t w m [] a c e = (same_top m t w (c m (inl refl)) (sym e), tt)
      reach t w m (s ∷ steps) a c e =
          let u : Tree = below steps t in
          let r = reach t w (parent_message H (H m) s) steps a.1 (λ n h. c n (inr h))
          (ap (λ h. climb (leaf_hash H) (inner_hash H) h steps) (parent_hash_lem (H m) s) ∙ e) in
          let p = parted s.side (H m) s.sibling u (hash32 m) a.0 r.0 in
          let inside : Within (tree_messages H (kid s.side u)) nodes = λ n h. w n (below_messages steps t n (kid_messages s.side u n h)) in
          (same_top m (kid s.side u) inside (c m (inl refl)) p.1, (p.0, p.2, r.1))

      -- so a presence proof shows a leaf of the tree
      pub shows : (t : Tree) → Within (tree_messages H t) nodes → All GrantForm (grants t) → (p : Presence) → PresenceForm p →
          Within (path_messages H p) checked →
          climb (leaf_hash H) (inner_hash H) (leaf_hash H p.key p.value) p.steps ≡ hash_of t →
          (below p.steps t ≡ leaf (grant p.key p.value)) × Real p.steps t
      unfolding path_messages
      shows t w forms p f c e =
          let r = reach t w (leaf_message p.key p.value) p.steps
          (all_map StepForm (λ s. length s.sibling ≡ 32) p.steps (λ s a. a.0) f.steps32) c e in
          let here = all_between GrantForm (lefts p.steps t) (grants (below p.steps t)) (rights p.steps t)
          (subst (All GrantForm) (around p.steps t r.1) forms) in
          (leaf_end p.key p.value (below p.steps t) here f.key32.0 r.0, r.1)

      -- a child whose hash is zero is none
      zero_none : (u : Tree) → Within (tree_messages H u) nodes → hash_of u ≡ zeros → grants u ≡ []
      zero_none none w e = refl
      zero_none (leaf g) w e = absurd (clean.node_not_zero (leaf_message g.key g.value) (w _ (inl refl)) e)
      zero_none (inner l r) w e = absurd (clean.node_not_zero (inner_message (hash_of l) (hash_of r)) (w _ (inl refl)) e)

      beside_right : (b : Side) (x : Bytes) (u : Tree) → Within (tree_messages H u) nodes → (b ≡ right) ⊎ (x ≡ zeros) →
          hash_of (kid (not b) u) ≡ x → cond b [] (grants (kid right u)) ≡ []
      beside_right true x u w o e = refl
      beside_right false x u w (inl f) e = absurd (false≢true f)
      beside_right false x u w (inr f) e = zero_none (kid right u) (λ n h. w n (kid_messages right u n h)) (e ∙ f)

      beside_left : (b : Side) (x : Bytes) (u : Tree) → Within (tree_messages H u) nodes → (b ≡ left) ⊎ (x ≡ zeros) →
          hash_of (kid (not b) u) ≡ x → cond b (grants (kid left u)) [] ≡ []
      beside_left false x u w o e = refl
      beside_left true x u w (inl f) e = absurd (true≢false f)
      beside_left true x u w (inr f) e = zero_none (kid left u) (λ n h. w n (kid_messages left u n h)) (e ∙ f)

      -- on the right of a rightmost path there is no grant, nor on the left of a leftmost one
      pub none_right : (steps : List Step) (t : Tree) → Within (tree_messages H t) nodes → Real steps t → Outermost right steps →
          rights steps t ≡ []
      none_right [] t w h o = refl
      none_right (s ∷ steps) t w h o =
          ap₂ ◌++◌
          (beside_right s.side s.sibling (below steps t) (λ n k. w n (below_messages steps t n k)) o.0 h.1)
          (none_right steps t w h.2 o.1)

      pub none_left : (steps : List Step) (t : Tree) → Within (tree_messages H t) nodes → Real steps t → Outermost left steps →
          lefts steps t ≡ []
      none_left [] t w h o = refl
      none_left (s ∷ steps) t w h o =
          ap₂ ◌++◌
          (none_left steps t w h.2 o.1)
          (beside_left s.side s.sibling (below steps t) (λ n k. w n (below_messages steps t n k)) o.0 h.1)
