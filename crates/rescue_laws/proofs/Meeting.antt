-- What is met where two trees part is what the first has and the second lacks; so a step backwards adds to the run's records just what it
-- meets. Assumes nothing.
use Prim.Native.Nat.{ℕ, zero, suc, ◌+◌, ◌≤◌}
use native.Mathlib.Omega.{arith}
use mathlib.Core.Path.{◌≡◌, refl, ap, sym, ◌∙◌, subst, subst₂}
use mathlib.Core.Logic.{◌↔◌, ◌⊎◌, inl, inr}
use mathlib.Core.Bool.{Bool, true, false, not, ◌&&◌, ◌||◌, or-true, true≢false, false≢true}
use mathlib.Core.List.{List, []}
use lib.ListN.{length}
use lib.Dec.{eqb, leb}
use borrow.Author.Tests.{eqb-true, eqb-false, eq-eqb, ne_eqb, leb-true, leb-false}
use Rattle.terms.specs.Bits.{Bytes, Side, left, right, Place, longer}
use Rattle.terms.specs.Records.{Slot}
use Rattle.terms.proofs.Tests.{and_left, and_right, or_cases, is_false}
use Rattle.terms.proofs.Places.{length_longer}
use Rattle.meaning.specs.Tree.{VTree, vnone, top_version, kid}
use Rattle.meaning.specs.Store.{find, tree_from}
use Rattle.meaning.specs.Sound.{NodeOf}
use Rattle.meaning.proofs.Finding.{there, within_node}
use Rattle.meaning.proofs.Nodes.{node_prefix, node_top}
use Rattle.histories.proofs.Standing.{Formed, kid_node}
use Rattle.local.proofs.Slots.{no_version, kids_from}
use Rattle.rescue_rules.specs.Rescue.{source_tree, same_node, in_run}
use Rattle.rescue_rules.specs.Joining.{Good, Chain, kid_of, parted_any, met_at, root_version}
use Rattle.rescue_laws.proofs.Right.{tree_found_lem, kid_found, RightAt, none_top, right_parts}
use Rattle.rescue_laws.proofs.Joining.{on_side_lem, some_of, top_cases}
use Rattle.rescue_laws.proofs.Nodes.{same_is, is_same_lem, node_in_run, run_node}
use Rattle.rescue_laws.proofs.Steps.{taken_before, taken_now}
use Rattle.rescue_laws.proofs.Decides.{read_root_lem, good_right, none_next}

or_left : (a b : Bool) → a ≡ true → a || b ≡ true
or_left a b e = rw e refl

or_right : (a b : Bool) → b ≡ true → a || b ≡ true
or_right a b e = rw e (or-true a)

module _ (leaf_hash inner_hash : Bytes → Bytes → Bytes) (s : List Slot) (z : Formed s) (w : ℕ) (q : Place) where
  abbrev Right : ℕ → ℕ → Place → Type 0
  Right n v p = RightAt leaf_hash inner_hash s z v p (tree_from n s v p)

  -- the first has it, the second lacks it
  abbrev pub New : Place → VTree → VTree → Type 0
  New p t u = NodeOf w q t p × (NodeOf w q u p → ⊥)

  module _ (p : Place) (t u : VTree) (differ : top_version t ≡ top_version u → ⊥) where
    new_top : (top_version t ≡ 0 → ⊥) → top_version t ≡ w → p ≡ q → New p t u
    new_top f e g = (
      subst₂ (λ x y. NodeOf x y t p) e g (within_node (some_of t f) there),
      λ m. differ (e ∙ sym (node_top w u p (subst (λ y. NodeOf w y u p) (sym g) m)).1),
    )

    new_side : (c : Side) → New (longer c p) (kid c t) (kid c u) → New p t u
    new_side c (m, f) = (kid_node c w q t p m, λ k. f (on_side_lem c w q p u (node_prefix w q (kid c t) (longer c p) m) k))

    side_new : New p t u → ((top_version t ≡ w) × (p ≡ q)) ⊎ ((c : Side) × New (longer c p) (kid c t) (kid c u))
    side_new (m, f) = elim (top_cases w q p t m) [ inl e ↦ inl e | inr e ↦ inr (e.0, (e.1, λ k. f (kid_node e.0 w q u p k))) ]

  module _ (n a b : ℕ) (p : Place) (len : length p + n ≡ 256) (ra : Right n a p) (rb : Right n b p) (below : Side → Bool) where
    abbrev kid_at : ℕ → Side → VTree
    kid_at v c = kids_from n s p c (kid_of c (find v p s))

    kid_is : (v : ℕ) (c : Side) → kid c (tree_from n s v p) ≡ kid_at v c
    kid_is v c = ap (kid c) (tree_found_lem s z n v p) ∙ kid_found s z n p c (find v p s)

    met_step : ((c : Side) → (below c ≡ true) ↔ New (longer c p) (kid_at a c) (kid_at b c)) → (k : Bool) → eqb a b ≡ k →
        (parted_any k (not (eqb a 0) && same_node w q a p) below ≡ true) ↔ New p (tree_from n s a p) (tree_from n s b p)
    met_step ih true e = (λ h. absurd (false≢true h), λ m. absurd (m.1 (subst (λ v. NodeOf w q (tree_from n s v p) p) (eqb-true a b e) m.0)))
    met_step ih false e = (into, back)
      where
        here : Bool
        here = not (eqb a 0) && same_node w q a p

        differ : top_version (tree_from n s a p) ≡ top_version (tree_from n s b p) → ⊥
        differ k = eqb-false a b e (sym ra.version ∙ k ∙ rb.version)

        not_zero_lem : not (eqb a 0) ≡ true → a ≡ 0 → ⊥
        not_zero_lem h k = false≢true (sym (ap not (eq-eqb a 0 k)) ∙ h)

        side : (c : Side) → below c ≡ true → New p (tree_from n s a p) (tree_from n s b p)
        side c h = new_side p (tree_from n s a p) (tree_from n s b p) differ c (rw (kid_is a c, kid_is b c) ((ih c).0 h))

        into : here || (below left || below right) ≡ true → New p (tree_from n s a p) (tree_from n s b p)
        into h = elim (or_cases here (below left || below right) h) [
          | inl k ↦
              let x = same_is w q a p (and_right (not (eqb a 0)) (same_node w q a p) k) in
              let y = not_zero_lem (and_left (not (eqb a 0)) (same_node w q a p) k) in
              new_top p (tree_from n s a p) (tree_from n s b p) differ (λ i. y (sym ra.version ∙ i)) (ra.version ∙ x.0) x.1
          | inr k ↦ elim (or_cases (below left) (below right) k) [ inl j ↦ side left j | inr j ↦ side right j ]
        ]

        any : (c : Side) → below c ≡ true → below left || below right ≡ true
        any false h = or_left (below left) (below right) h
        any true h = or_right (below left) (below right) h

        top : (top_version (tree_from n s a p) ≡ w) × (p ≡ q) → NodeOf w q (tree_from n s a p) p → here ≡ true
        top x m =
            let v : 1 ≤ a = go (tree_from n s a p) ra.version ra m in
            rw (ne_eqb a 0 (λ i. omega arith)) (is_same_lem w q a p (sym ra.version ∙ x.0) x.1)
          where
            go : (t : VTree) → top_version t ≡ a → RightAt leaf_hash inner_hash s z a p t → NodeOf w q t p → 1 ≤ a
            go t i r m = by _ refl
              where
                by : (k : Bool) → eqb a 0 ≡ k → 1 ≤ a
                by true k = absurd (subst (λ x. NodeOf w q x p) (none_top leaf_hash inner_hash s z a p t r (i ∙ eqb-true a 0 k)) m)
                by false k = let j = eqb-false a 0 k in omega arith

        back : New p (tree_from n s a p) (tree_from n s b p) → here || (below left || below right) ≡ true
        back m = elim (side_new p (tree_from n s a p) (tree_from n s b p) differ m) [
          | inl x ↦ or_left here (below left || below right) (top x m.0)
          | inr x ↦ or_right here (below left || below right) (any x.0 ((ih x.0).1 (rw (← kid_is a x.0, ← kid_is b x.0) x.1)))
        ]

  -- what is met is new
  pub met_is_new : (n a b : ℕ) (p : Place) → length p + n ≡ 256 → Right n a p → Right n b p →
      (met_at n s a b p w q ≡ true) ↔ New p (tree_from n s a p) (tree_from n s b p)
  met_is_new zero a b p len ra rb = met_step zero a b p len ra rb (λ c. false) (λ c. (λ h. absurd (false≢true h), λ m. absurd m.0)) (eqb a b) refl
  met_is_new (suc n) a b p len ra rb =
      met_step (suc n) a b p len ra rb (λ c. met_at n s (kid_of c (find a p s)) (kid_of c (find b p s)) (longer c p) w q)
      (λ c. met_is_new n (kid_of c (find a p s)) (kid_of c (find b p s)) (longer c p) (omega (arith, length_longer c p))
      (((right_parts leaf_hash inner_hash s z (suc n) a p len).0 ra).1 c) (((right_parts leaf_hash inner_hash s z (suc n) b p len).0 rb).1 c)) (eqb a b) refl

  -- what a step backwards meets
  pub step_new : (u n : ℕ) → Chain leaf_hash inner_hash s u (suc n) →
      (met_at 256 s (root_version s u) (root_version s (suc u)) [] w q ≡ true) ↔ New [] (source_tree s u) (source_tree s (suc u))
  step_new u n chain =
      subst₂ (λ t v. (met_at 256 s (root_version s u) (root_version s (suc u)) [] w q ≡ true) ↔ New [] t v) (sym (read_root_lem s z 256 refl u)) (sym (read_root_lem s z 256 refl (suc u)))
      (met_is_new 256 (root_version s u) (root_version s (suc u)) [] refl
      (good_right leaf_hash inner_hash s z u (chain.good u (omega arith) (omega arith)))
      (good_right leaf_hash inner_hash s z (suc u) (chain.good (suc u) (omega arith) (omega arith))))

  -- what is met where nothing comes after is the whole tree
  pub first_new : (v : ℕ) → Good leaf_hash inner_hash s v → (met_at 256 s (root_version s v) 0 [] w q ≡ true) ↔ NodeOf w q (source_tree s v) []
  first_new v good =
      let new : (met_at 256 s (root_version s v) 0 [] w q ≡ true) ↔ New [] (source_tree s v) vnone = subst₂ (λ t u. (met_at 256 s (root_version s v) 0 [] w q ≡ true) ↔ New [] t u) (sym (read_root_lem s z 256 refl v)) (no_version 256 s [])
      (met_is_new 256 (root_version s v) 0 [] refl (good_right leaf_hash inner_hash s z v good) (none_next leaf_hash inner_hash s z v)) in
      (λ h. (new.0 h).0, λ m. new.1 (m, λ k. k))

  pub first_adds : (v : ℕ) → Good leaf_hash inner_hash s v → in_run s v 0 w q ≡ met_at 256 s (root_version s v) 0 [] w q
  first_adds v good = go _ refl
    where
      go : (y : Bool) → met_at 256 s (root_version s v) 0 [] w q ≡ y → in_run s v 0 w q ≡ y
      go true e = node_in_run s v 0 v w q (omega arith) (omega arith) ((first_new v good).0 e)
      go false e = is_false _ (λ h. let (t, a, b, m) = run_node s v 0 w q h in
          true≢false (sym ((first_new v good).1 (subst (λ x. NodeOf w q (source_tree s x) []) (omega arith) m)) ∙ e))

  -- a step backwards adds what it meets
  pub step_adds : (u n : ℕ) → Chain leaf_hash inner_hash s u (suc n) →
      in_run s u (suc n) w q ≡ (in_run s (suc u) n w q || met_at 256 s (root_version s u) (root_version s (suc u)) [] w q)
  step_adds u n chain = go _ refl _ refl
    where
      met : Bool
      met = met_at 256 s (root_version s u) (root_version s (suc u)) [] w q

      later : (v : ℕ) → suc u ≤ v → v ≤ u + suc n → in_run s (suc u) n w q ≡ false → NodeOf w q (source_tree s v) [] → ⊥
      later v a b k m = true≢false (sym (node_in_run s (suc u) n v w q a (omega arith) m) ∙ k)

      go : (x : Bool) → in_run s (suc u) n w q ≡ x → (y : Bool) → met ≡ y → in_run s u (suc n) w q ≡ x || y
      go true e y f = (taken_before s u n w q e).0
      go false e true f = (taken_now s u n w q e ((step_new u n chain).0 f).0).0
      go false e false f = is_false _ (λ h. let (t, a, b, m) = run_node s u (suc n) w q h in here t a b m _ refl)
        where
          at_u : NodeOf w q (source_tree s u) [] → ⊥
          at_u m = true≢false (sym ((step_new u n chain).1 (m, λ k. later (suc u) (omega arith) (omega arith) e k)) ∙ f)

          here : (t : ℕ) → u ≤ t → t ≤ u + suc n → NodeOf w q (source_tree s t) [] → (k : Bool) → leb t u ≡ k → ⊥
          here t a b m true k = let j = leb-true t u k in at_u (subst (λ v. NodeOf w q (source_tree s v) []) (omega arith) m)
          here t a b m false k = later t (leb-false t u k) b e m
