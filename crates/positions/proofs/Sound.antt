-- In a sound store of the counted form each record's counts are the numbers of leaves below its children. So the root's counts add up to the number
-- of grants, and the descent by counts comes to the leaf that stands at the position asked for. Assumes nothing.
use Prim.Native.Nat.{ℕ, zero, suc, ◌+◌, ◌-◌, ◌<◌, ◌≤◌}
use native.Mathlib.Omega.{arith}
use mathlib.Core.Path.{◌≡◌, refl, ap, ap₂, sym, ◌∙◌, subst}
use mathlib.Core.Bool.{Bool, true, false, cond, true≢false}
use mathlib.Core.List.{[], ◌∷◌}
use mathlib.Core.Option.{Option, none, some, some-injective}
use lib.ListN.{length}
use lib.Dec.{ltb}
use borrow.Author.Tests.{ne_eqb, eq-eqb, le-leb, ltb-true, ltb-false}
use Rattle.terms.specs.declared.Form.TheVariants.{Counted as counted}
use Rattle.terms.specs.Bits.{Bytes, Side, left, right, Place, longer}
use Rattle.terms.specs.Records.{Grant, Child, Body, Record, Store}
use Rattle.terms.specs.Form.{place_limit}
use Rattle.terms.proofs.Places.{length_longer}
use Rattle.meaning.specs.Tree.{VTree, vnone, vleaf, vinner, top_version, leaves, kid, grants_in}
use Rattle.meaning.specs.Store.{find, root_of, tree_at_version, child_of}
use Rattle.meaning.specs.Sound.{Kept, At, Found, Stands, Sound}
use Rattle.meaning.specs.Sight.{nothing, scan}
use Rattle.meaning.specs.Calls.{Answer, accepted, is_kept}
use Rattle.meaning.specs.Counting.{weight, number_at, read_number, at_body, descend, position_at, read_position, grant_at}
use Rattle.meaning.specs.Local.{weighed}
use Rattle.meaning.proofs.Finding.{found_at, at_find, Some, some_leaf, some_inner}
use Rattle.meaning.proofs.Roots.{root_at_lem, root_none, root_some}
use Rattle.meaning.proofs.Sights.{root_sighted, no_root_sighted, node_sighted}
use Rattle.meaning.proofs.Counts.{found_counts, stands_weighs}
use Rattle.positions.proofs.Grants.{leaves_are, first_at, rest_at, none_at}

choose : {A : Type 0} (b : Bool) (x y z : A) → (b ≡ true → x ≡ z) → (b ≡ false → y ≡ z) → cond b x y ≡ z
choose true x y z f g = f refl
choose false x y z f g = g refl

module _ (leaf_hash inner_hash : Bytes → Bytes → Bytes) (st : Store) (form : st.form ≡ counted) (ok : Sound leaf_hash inner_hash st) where
  abbrev Standing : Place → VTree → Type 0
  Standing p t = Stands leaf_hash inner_hash st p t

  abbrev child_at : VTree → Child
  child_at t = child_of leaf_hash inner_hash t

  -- a way on from a child leads to each grant of the tree there
  abbrev Leads : (ℕ → Answer Grant) → VTree → Type 0
  Leads to t = (i : ℕ) → i < leaves t → to i ≡ grant_at (grants_in t) i

  -- what is found at the top of a standing tree
  top_body : (p : Place) (v : ℕ) (b : Body) (q : Record) → find v p st.slots ≡ some q → Found st v p b → q.body ≡ b
  unfolding Found
  top_body p v b q e (r, f, g) = ap (λ x. x.body) (some-injective q r (sym e ∙ f)) ∙ g

  -- an inner node sends the positions below its left count to the left, the others to the right
  fork_leads : (l r : VTree) (below : Side → Child → ℕ → Answer Grant) → Leads (below left (child_at l)) l → Leads (below right (child_at r)) r →
      Leads (λ i. cond (ltb i (leaves l)) (below left (child_at l) i) (below right (child_at r) (i - leaves l))) (vinner 0 l r)
  fork_leads l r below f g i h = go (ltb i (leaves l)) refl
    where
      go : (b : Bool) → ltb i (leaves l) ≡ b →
          cond b (below left (child_at l) i) (below right (child_at r) (i - leaves l)) ≡ grant_at (grants_in (vinner 0 l r)) i
      go true e =
          let k = ltb-true i (leaves l) e in
          f i k ∙ sym (first_at (grants_in l) (grants_in r) i (omega (arith, leaves_are l)))
      go false e =
          let k = ltb-false i (leaves l) e in
          g (i - leaves l) (omega arith)
          ∙ sym (rest_at (grants_in l) (grants_in r) i (i - leaves l) (omega (arith, leaves_are l)))

  -- at the record of a standing node, where the ways on from its children lead to their grants
  body_leads : (p : Place) (t : VTree) (q : Record) → Some t → find (top_version t) p st.slots ≡ some q → Standing p t →
      (below : Side → Child → ℕ → Answer Grant) → ((b : Side) → Leads (below b (child_at (kid b t))) (kid b t)) →
      Leads (λ i. at_body p q.body q.counts i below) t
  body_leads p vnone q o e s below kids i h = elim o [ ]
  body_leads p (vleaf v g) q o e s below kids i h =
      ap (λ b. at_body p b q.counts i below) (top_body p v _ q e s.0)
      ∙ rw (s.1, eq-eqb i 0 (omega arith)) (ap (grant_at (g ∷ [])) (zero_is i h))
    where
      zero_is : (i : ℕ) → i < 1 → 0 ≡ i
      zero_is i h = omega arith
  body_leads p (vinner v l r) q o e s below kids i h =
      ap₂ (λ b c. at_body p b c i below) (top_body p v _ q e s.0) (found_counts st form v p _ q e s.4)
      ∙ fork_leads l r below (kids left) (kids right) i h

  versions : (i : ℕ) (r : Record) → At st i r → 1 ≤ r.version
  versions i r a = (ok.versions i r a).0

  -- what is found has a version, and an inner record's place has bits left
  found_version : (p : Place) (v : ℕ) (b : Body) → Found st v p b → (r : Record) × (find v p st.slots ≡ some r) × (1 ≤ v) × (length p ≤ place_limit b)
  unfolding Found
  found_version p v b (r, e, f) =
      let w = found_at st v p r e in
      let short = (ok.formed w.0 r w.1).short in (
        r,
        e,
        subst (λ n. 1 ≤ n) w.2 (versions w.0 r w.1),
        subst (λ q. length q ≤ place_limit b) w.3 (subst (λ y. length r.place ≤ place_limit y) f short),
      )

  -- the descent from a child leads to each grant of the tree there
  descends : (n : ℕ) (p : Place) (t : VTree) → length p + n ≡ 256 → Standing p t → Leads (descend n (scan st) p (child_at t)) t
  unfolding child_of
  descends n p vnone h s i l = absurd (omega arith)
  descends zero p (vleaf v g) h s i l =
      let (r, e, one, short) = found_version p v _ s.0 in
      rw (ne_eqb v 0 (omega arith), node_sighted st v p r e) (body_leads p (vleaf v g) r some_leaf e s _ (λ b j k. absurd (omega arith)) i l)
  descends (suc n) p (vleaf v g) h s i l =
      let (r, e, one, short) = found_version p v _ s.0 in
      rw (ne_eqb v 0 (omega arith), node_sighted st v p r e) (body_leads p (vleaf v g) r some_leaf e s _ (λ b j k. absurd (omega arith)) i l)
  descends zero p (vinner v x y) h s i l = let (r, e, one, short) = found_version p v _ s.0 in absurd (omega arith)
  descends (suc n) p (vinner v x y) h s i l =
      let (r, e, one, short) = found_version p v _ s.0 in
      rw (ne_eqb v 0 (omega arith), node_sighted st v p r e)
      (body_leads p (vinner v x y) r some_inner e s _ (λ b. elim b as (λ b. Leads (descend n (scan st) (longer b p) (child_at (kid b (vinner v x y)))) (kid b (vinner v x y))) [
        | false ↦ descends n (longer left p) x (omega (arith, length_longer left p)) s.2
        | true ↦ descends n (longer right p) y (omega (arith, length_longer right p)) s.3
      ]) i l)

  one_side : (b : Side) (t : VTree) → Standing (longer b []) t → Standing (b ∷ []) t
  unfolding longer
  one_side b t s = s

  module _ (v : ℕ) (kept : Kept st v) where
    abbrev tree : VTree
    tree = tree_at_version st v

    is_kept_lem : is_kept st v ≡ true
    unfolding is_kept
    is_kept_lem = rw (le-leb st.oldest v kept.0, le-leb v st.latest kept.1)

    stands : Standing [] tree
    stands = ok.stands v kept

    -- the root record of a version that has a tree
    record Rooted (r : Record) : Type 0 where
      here : Some tree
      found : find (top_version tree) [] st.slots ≡ some r

    rooted : (r : Record) → root_of st v ≡ some r → Rooted r
    rooted r e =
        let (i, a, p, l) = root_at_lem st v r e in
        let (s, w) = root_some st v r e in
        record { here = s; found = ap₂ (λ x q. find x q st.slots) w (sym p) ∙ at_find st ok.unique i r a }

    root_weighs : (r : Record) → Rooted r → weight r ≡ leaves tree
    root_weighs r w = sym (ap weighed w.found) ∙ stands_weighs leaf_hash inner_hash st form versions [] tree stands

    -- The number read is the number of the version's grants.
    pub number_is : read_number st v ≡ accepted (length (grants_in tree))
    unfolding read_number
    number_is = rw is_kept_lem (go (root_of st v) refl)
      where
        go : (o : Option Record) → root_of st v ≡ o → number_at ((scan st).root v) ≡ accepted (length (grants_in tree))
        go none e = ap number_at (no_root_sighted st v ok.whole e) ∙ ap (λ t. accepted (length (grants_in t))) (sym (root_none st v e))
        go (some r) e = ap number_at (root_sighted st v r e) ∙ ap accepted (root_weighs r (rooted r e) ∙ leaves_are tree)

    root_leads : (r : Record) → Rooted r → Leads (λ i. at_body [] r.body r.counts i (λ b d j. descend 255 (scan st) (b ∷ []) d j)) tree
    root_leads r w = go tree refl w.here w.found stands
      where
        go : (t : VTree) → tree ≡ t → Some t → find (top_version t) [] st.slots ≡ some r → Standing [] t →
            Leads (λ i. at_body [] r.body r.counts i (λ b d j. descend 255 (scan st) (b ∷ []) d j)) t
        go vnone k o e s = elim o [ ]
        go (vleaf w g) k o e s = body_leads [] (vleaf w g) r o e s _ (λ b j h. absurd (omega arith))
        go (vinner w x y) k o e s =
            body_leads [] (vinner w x y) r o e s _ (λ b. elim b as (λ b. Leads (descend 255 (scan st) (b ∷ []) (child_at (kid b (vinner w x y)))) (kid b (vinner w x y))) [
              | false ↦ descends 255 (left ∷ []) x refl (one_side left x s.2)
              | true ↦ descends 255 (right ∷ []) y refl (one_side right y s.3)
            ])

    -- The grant read at a position is the one there, in the order of the keys; 20 if the position isn't below their number.
    pub position_is : (i : ℕ) → read_position st v i ≡ grant_at (grants_in tree) i
    unfolding read_position
    position_is i = choose (is_kept st v) _ _ _ (λ k. go (root_of st v) refl) (λ k. absurd (true≢false (sym is_kept_lem ∙ k)))
      where
        go : (o : Option Record) → root_of st v ≡ o → position_at (scan st) ((scan st).root v) i ≡ grant_at (grants_in tree) i
        go none e =
            ap (λ x. position_at (scan st) x i) (no_root_sighted st v ok.whole e) ∙ ap (λ t. grant_at (grants_in t) i) (sym (root_none st v e))
        go (some r) e =
            let w = rooted r e in
            let number = root_weighs r w in
            ap (λ x. position_at (scan st) x i) (root_sighted st v r e)
            ∙ choose (ltb i (weight r)) _ _ _
            (λ k. root_leads r w i (omega (arith, ltb-true i (weight r) k)))
            (λ k. sym (none_at (grants_in tree) i (omega (arith, ltb-false i (weight r) k, leaves_are tree))))
