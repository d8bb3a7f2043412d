-- The step at an inner node: if the steps at its children give what is given there, it gives what is given here. The grants are those of the
-- two sides, and the tree is the join of the two trees: nothing, a lone leaf moved up, or an inner node. Assumes nothing.
use Prim.Native.Nat.{ℕ, suc, ◌+◌, ◌<◌}
use native.Mathlib.Omega.{arith}
use mathlib.Core.Path.{◌≡◌, refl, ap, ap₂, sym, ◌∙◌, subst, subst₂}
use mathlib.Core.Logic.{inl, inr, ◌↔◌}
use mathlib.Core.Bool.{Bool, true, false, cond, ◌&&◌, true≢false}
use mathlib.Core.List.{List, [], ◌∷◌, ◌++◌}
use lib.ListN.{length, length-append}
use Rattle.terms.specs.Bits.{Bytes, left, right, Place, longer, filter}
use Rattle.terms.specs.Records.{Grant}
use Rattle.terms.proofs.Tests.{is_false}
use Rattle.terms.proofs.Places.{length_longer}
use Rattle.meaning.specs.Tree.{Tree, none, leaf, inner, grants, VTree, vnone, vleaf, vinner, unversioned, grants_in, top_version}
use Rattle.meaning.specs.Tree.{same_grants, versioned}
use Rattle.meaning.specs.Store.{records_below}
use Rattle.meaning.specs.Sound.{NodeOf}
use Rattle.meaning.proofs.Nodes.{node_top, sides_apart}
use Rattle.meaning.proofs.Sides.{side, join}
use Rattle.meaning.proofs.Versions.{same_grants_refl, same_grants_eq}
use Rattle.meaning.proofs.Shaped.{Shaped, shaped_begun, sides_of, shaped_same}
use Rattle.steps.specs.Step.{Change, updated, deleted, unchanged, is_unchanged, Node, Outcome, outcome, above, node_at, ends_at}
use Rattle.steps.specs.Step.{by_children, fork, inner_by}
use Rattle.steps.specs.Given.{Among, Older, change_by, change_of, is_new, Gives}
use Rattle.steps.proofs.Among.{among_left, among_right, among_append, at_node_lem, family_cases, family_left, family_right, family_own}
use Rattle.steps.proofs.Becoming.{differing, Became, stayed, vanished, renewed, unchanged_gives, gives_unchanged, Made, fork_gives}

-- no more than a leaf
data Low : Tree → Type 0 where
  low_none : Low none
  low_leaf : {g : Grant} → Low (leaf g)

-- what stands above two trees, by the cases of their join
module _ (P : Outcome → Tree → Type 0) (new : ℕ) (p : Place) (l r : VTree) (nothing : Outcome) (lone : Grant → Outcome) (both : Outcome) where
  by_join : (A B : Tree) → Shaped (longer left p) A → Shaped (longer right p) B → (Low A → Low B → P nothing none) →
      ((g : Grant) → Low A → Low B → P (lone g) (leaf g)) → (1 < length (grants A ++ grants B) → P both (inner A B)) →
      P (by_children (versioned new l A) (versioned new r B) nothing lone both) (join A B)
  by_join none none s w f g h = f low_none low_none
  by_join none (leaf x) s w f g h = g x low_none low_leaf
  by_join none (inner c d) s w f g h = h w.1
  by_join (leaf x) none s w f g h = g x low_leaf low_none
  by_join (leaf x) (leaf y) s w f g h = h (omega arith)
  by_join (leaf x) (inner c d) s w f g h = h (let i = w.1 in omega arith)
  by_join (inner c d) B s w f g h = h (simp length-append (omega (arith, simp length-append at s.1)))

-- two grants or more are joined by an inner node
join_several : (A B : Tree) → 1 < length (grants A ++ grants B) → join A B ≡ inner A B
join_several none none h = absurd (omega arith)
join_several none (leaf g) h = absurd (omega arith)
join_several none (inner l r) h = refl
join_several (leaf g) none h = absurd (omega arith)
join_several (leaf g) (leaf h') h = refl
join_several (leaf g) (inner l r) h = refl
join_several (inner l r) B h = refl

-- two grants or more are not fewer
fewer : (gs hs : List Grant) → length hs < length gs → same_grants gs hs ≡ false
fewer gs hs l = is_false (same_grants gs hs) (λ e. let z = ap length (same_grants_eq gs hs e) in omega arith)

unchanged_test : (gs hs : List Grant) → is_unchanged (change_of gs hs) ≡ same_grants gs hs
unchanged_test gs hs = go (same_grants gs hs) hs
  where
    go : (b : Bool) (hs : List Grant) → is_unchanged (change_by b hs) ≡ b
    go true hs = refl
    go false [] = refl
    go false (h ∷ hs) = refl

-- the grants of two sides are the same only if both sides are
sides_same : (p : Place) (A B C D : Tree) → Shaped (longer left p) A → Shaped (longer right p) B → Shaped (longer left p) C →
    Shaped (longer right p) D → grants A ++ grants B ≡ grants C ++ grants D → (grants A ≡ grants C) × (grants B ≡ grants D)
sides_same p A B C D a b c d e =
    let x = sides_of p (grants A) (grants B) (shaped_begun (longer left p) A a) (shaped_begun (longer right p) B b) in
    let y = sides_of p (grants C) (grants D) (shaped_begun (longer left p) C c) (shaped_begun (longer right p) D d) in
    (sym x.0 ∙ ap (side (length p) left) e ∙ y.0, sym x.1 ∙ ap (side (length p) right) e ∙ y.1)

module _ (leaf_hash inner_hash : Bytes → Bytes → Bytes) (new : ℕ) where
  abbrev MadeAt : Place → VTree → Tree → Outcome → Type 0
  MadeAt p t now o = Made leaf_hash inner_hash new p t now o

  -- a child that now has no more than a leaf
  module _ (p : Place) (l : VTree) (A : Tree) (a : Outcome) (low : Low A) (m : MadeAt p l A a) where
    -- has nothing new below it
    low_fresh : a.fresh ≡ []
    low_fresh = m.gives.fresh_is ∙ ap (λ t. filter (is_new new) (records_below leaf_hash inner_hash p t)) m.gives.node_is ∙ go A low
      where
        go : (B : Tree) → Low B → filter (is_new new) (records_below leaf_hash inner_hash p (versioned new l B)) ≡ []
        go none low_none = refl
        go (leaf g) low_leaf = refl
        go (inner _ _) x3 = elim x3 [ ]

    low_at : (v : ℕ) (q : Place) → NodeOf v q a.node p → Among v q (node_at p a.node)
    low_at v q n = rw m.gives.node_is (go A low (subst (λ t. NodeOf v q t p) m.gives.node_is n))
      where
        go : (B : Tree) → Low B → NodeOf v q (versioned new l B) p → Among v q (node_at p (versioned new l B))
        go none low_none n = absurd n
        go (leaf g) low_leaf n = inl n
        go (inner _ _) x3 n = elim x3 [ ]

    -- and where its node is given up too, all nodes that it had end
    low_ends : (v : ℕ) (q : Place) → Among v q (a.retired ++ node_at p l) ↔ NodeOf v q l p
    low_ends v q = (
      λ h. elim (among_append v q a.retired (node_at p l) h) [
        | inl k ↦ ((m.gives.retired_is v q).0 (among_left v q a.retired (ends_at a.change p l) k)).0
        | inr k ↦ (at_node_lem v q l p k).0
      ],
      λ n. go a.change m.became (λ f. (m.gives.retired_is v q).1 (n, f)) n,
    )
      where
        go : (c : Change) → Became new l a.node c → ((NodeOf v q a.node p → ⊥) → Among v q (a.retired ++ ends_at c p l)) →
            NodeOf v q l p → Among v q (a.retired ++ node_at p l)
        go unchanged (stayed e) f n =
            let here = low_at v q (subst (λ t. NodeOf v q t p) (sym e) n) in
            among_right v q a.retired (node_at p l) (subst (λ t. Among v q (node_at p t)) e here)
        go deleted (vanished e) f n = f (λ k. subst (λ t. NodeOf v q t p) e k)
        go updated (renewed s e) f n = f (λ k.
            let d : p ≡ q = (at_node_lem v q a.node p (low_at v q k)).1 in
            let t : top_version a.node ≡ v = (node_top v a.node p (subst (λ u. NodeOf v u a.node p) (sym d) k)).1 in
            let o = m.older v q n in omega arith)

  -- an inner node (v, p) above l and r, where the steps at its children made a and b
  module _ (p : Place) (v : ℕ) (l r : VTree) (A B : Tree) (a b : Outcome) (s : Shaped p (unversioned (vinner v l r)))
      (old : Older new p (vinner v l r)) (wA : Shaped (longer left p) A) (wB : Shaped (longer right p) B)
      (x : MadeAt (longer left p) l A a) (y : MadeAt (longer right p) r B b) where
    abbrev GivesHere : Tree → Outcome → Type 0
    GivesHere now o = Gives leaf_hash inner_hash new p (vinner v l r) now o

    abbrev old_kids : List Node
    old_kids = node_at (longer left p) l ++ node_at (longer right p) r

    abbrev ended_kids : List Node
    ended_kids = ends_at a.change (longer left p) l ++ ends_at b.change (longer right p) r

    -- both children gone, or a lone leaf moved up: all nodes of the old tree end
    low_gives : (c : Change) (t : VTree) (now : Tree) → Low A → Low B → t ≡ versioned new (vinner v l r) now →
        c ≡ change_of (grants_in (vinner v l r)) (grants now) → ends_at c p (vinner v l r) ≡ node_at p (vinner v l r) →
        records_below leaf_hash inner_hash p t ≡ [] → ((w : ℕ) (q : Place) → NodeOf w q (vinner v l r) p → NodeOf w q t p → ⊥) →
        GivesHere now (above c t a b [] old_kids)
    low_gives c t now la lb node change ends below away = record {
      node_is = node;
      change_is = change;
      fresh_is =
          ap₂ (λ u w. u ++ w ++ []) (low_fresh (longer left p) l A a la x) (low_fresh (longer right p) r B b lb y)
          ∙ ap (filter (is_new new)) (sym below);
      retired_is = λ w q.
          let own : List Node = ends_at c p (vinner v l r) in
          let nl : List Node = node_at (longer left p) l in
          let nr : List Node = node_at (longer right p) r in
          let on_left = low_ends (longer left p) l A a la x w q in
          let on_right = low_ends (longer right p) r B b lb y w q in
          let was : Among w q (a.retired ++ b.retired ++ (nl ++ nr) ++ own) → NodeOf w q (vinner v l r) p =
          λ h. elim (family_cases w q a.retired b.retired nl nr own h) [
            | inl k ↦ inr (inl (on_left.0 k))
            | inr k ↦ elim k [ inl i ↦ inr (inr (on_right.0 i)) | inr i ↦ (at_node_lem w q (vinner v l r) p (subst (Among w q) ends i)).0 ]
          ] in (
            λ h. (was h, away w q (was h)),
            λ n. elim n.0 [
              | inl d ↦ family_own w q a.retired b.retired nl nr own (subst (Among w q) (sym ends) (inl d))
              | inr k ↦ elim k [
                | inl i ↦ family_left w q a.retired b.retired nl nr own (on_left.1 i)
                | inr i ↦ family_right w q a.retired b.retired nl nr own (on_right.1 i)
              ]
            ],
          );
    }

    -- a new inner node: what ends at the children ends, and the old node
    fork_ends : (w : ℕ) (q : Place) → Among w q (a.retired ++ b.retired ++ ended_kids ++ node_at p (vinner v l r))
        ↔ (NodeOf w q (vinner v l r) p × (NodeOf w q (vinner new a.node b.node) p → ⊥))
    fork_ends w q =
        let el : List Node = ends_at a.change (longer left p) l in
        let er : List Node = ends_at b.change (longer right p) r in
        let own : List Node = node_at p (vinner v l r) in
        let on_left = x.gives.retired_is w q in
        let on_right = y.gives.retired_is w q in
        let not_new : NodeOf w q (vinner v l r) p → w ≡ new → ⊥ = λ n e. let o = old w q n in omega arith in (
          λ h. elim (family_cases w q a.retired b.retired el er own h) [
            | inl k ↦ let m = on_left.0 k in (
              inr (inl m.0),
              λ n. elim n [
                | inl d ↦ not_new (inr (inl m.0)) (sym d.0)
                | inr i ↦ elim i [ inl j ↦ m.1 j | inr j ↦ sides_apart w q l b.node p m.0 j ]
              ],
            )
            | inr k ↦ elim k [
              | inl i ↦ let m = on_right.0 i in (
                inr (inr m.0),
                λ n. elim n [
                  | inl d ↦ not_new (inr (inr m.0)) (sym d.0)
                  | inr j ↦ elim j [ inl j' ↦ sides_apart w q a.node r p j' m.0 | inr j' ↦ m.1 j' ]
                ],
              )
              | inr i ↦
                  let m = at_node_lem w q (vinner v l r) p i in
                  let now : VTree = vinner new a.node b.node in
                  (m.0, λ n. not_new m.0 (sym (node_top w now p (subst (λ u. NodeOf w u now p) (sym m.1) n)).1))
            ]
          ],
          λ n. elim n.0 [
            | inl d ↦ family_own w q a.retired b.retired el er own (inl d)
            | inr k ↦ elim k [
              | inl i ↦ family_left w q a.retired b.retired el er own (on_left.1 (i, λ j. n.1 (inr (inl j))))
              | inr i ↦ family_right w q a.retired b.retired el er own (on_right.1 (i, λ j. n.1 (inr (inr j))))
            ]
          ],
        )

    -- both children unchanged
    same_gives : (n : ℕ) → length p + suc n ≡ 256 → grants_in l ≡ grants A → grants_in r ≡ grants B →
        GivesHere (join A B) (above unchanged (vinner v l r) a b [] [])
    same_gives n e i j =
        let sameA : A ≡ unversioned l =
        sym (shaped_same n (longer left p) (unversioned l) A (omega (arith, length_longer left p)) s.2 wA i) in
        let sameB : B ≡ unversioned r =
        sym (shaped_same n (longer right p) (unversioned r) B (omega (arith, length_longer right p)) s.3 wB j) in
        let stays : a ≡ outcome unchanged l =
        gives_unchanged leaf_hash inner_hash new (longer left p) l a x.older
        (subst (λ t. Gives leaf_hash inner_hash new (longer left p) l t a) sameA x.gives) in
        let stays' : b ≡ outcome unchanged r =
        gives_unchanged leaf_hash inner_hash new (longer right p) r b y.older
        (subst (λ t. Gives leaf_hash inner_hash new (longer right p) r t b) sameB y.gives) in
        let now : join A B ≡ unversioned (vinner v l r) = ap₂ join sameA sameB ∙ join_several (unversioned l) (unversioned r) s.1 in
        subst₂ (λ t u. GivesHere (join A B) (above unchanged (vinner v l r) t u [] [])) (sym stays) (sym stays')
        (rw now (unchanged_gives leaf_hash inner_hash new p (vinner v l r) old))

    abbrev changed : VTree → VTree → Outcome
    changed t u =
        by_children t u (above deleted vnone a b [] old_kids) (λ g. above updated (vleaf new g) a b [] old_kids)
        (fork leaf_hash inner_hash new p a b ended_kids)

    -- a child changed
    changed_gives : (grants_in l ≡ grants A → grants_in r ≡ grants B → ⊥) → GivesHere (join A B) (changed a.node b.node)
    changed_gives f =
        let gs : List Grant = grants_in (vinner v l r) in
        let several : 1 < length gs = s.1 in
        let d : same_grants gs (grants A ++ grants B) ≡ false =
        is_false (same_grants gs (grants A ++ grants B)) (λ h.
        let same = sides_same p (unversioned l) (unversioned r) A B s.2 s.3 wA wB (same_grants_eq gs (grants A ++ grants B) h) in
        f same.0 same.1) in
        subst₂ (λ t u. GivesHere (join A B) (changed t u)) (sym x.gives.node_is) (sym y.gives.node_is)
        (by_join (λ o now. GivesHere now o) new p l r (above deleted vnone a b [] old_kids) (λ g. above updated (vleaf new g) a b [] old_kids)
        (fork leaf_hash inner_hash new p a b ended_kids) A B wA wB
        (λ la lb.
        low_gives deleted vnone none la lb refl (ap (λ t. change_by t []) (sym (fewer gs [] (omega arith)))) refl refl (λ w q n k. k))
        (λ g la lb.
        let one = fewer gs (g ∷ []) several in
        low_gives updated (vleaf new g) (leaf g) la lb (ap (λ w. vleaf w g) (sym (differing new (vinner v l r) (g ∷ []) one)))
        (ap (λ t. change_by t (g ∷ [])) (sym one)) refl refl (λ w q n k. let o = old w q n in let z = k.0 in omega arith))
        (λ h. fork_gives leaf_hash inner_hash new p (vinner v l r) A B a b ended_kids d h x y fork_ends))

    pub inner_gives : (n : ℕ) → length p + suc n ≡ 256 → GivesHere (join A B) (inner_by leaf_hash inner_hash new p v l r a b)
    unfolding inner_by
    inner_gives n e =
        let test : is_unchanged a.change && is_unchanged b.change
        ≡ same_grants (grants_in l) (grants A) && same_grants (grants_in r) (grants B) =
        ap₂ ◌&&◌ (ap is_unchanged x.gives.change_is ∙ unchanged_test (grants_in l) (grants A))
        (ap is_unchanged y.gives.change_is ∙ unchanged_test (grants_in r) (grants B)) in
        rw test (go (same_grants (grants_in l) (grants A)) (same_grants (grants_in r) (grants B)) refl refl)
      where
        go : (i j : Bool) → same_grants (grants_in l) (grants A) ≡ i → same_grants (grants_in r) (grants B) ≡ j →
            GivesHere (join A B) (cond (i && j) (above unchanged (vinner v l r) a b [] []) (changed a.node b.node))
        go true true i j = same_gives n e (same_grants_eq (grants_in l) (grants A) i) (same_grants_eq (grants_in r) (grants B) j)
        go true false i j = changed_gives (λ f g. true≢false (sym (rw g (same_grants_refl (grants B))) ∙ j))
        go false j i k = changed_gives (λ f g. true≢false (sym (rw f (same_grants_refl (grants A))) ∙ i))
