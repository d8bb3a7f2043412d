-- In a sound store a read sees the tree of each kept version, that tree is seated at the empty place, and the root read is its hash: each
-- node of a standing tree is found, with the body that its children say. Assumes nothing.
use Prim.Native.Nat.{ℕ, zero, suc, ◌+◌, ◌≤◌}
use native.Mathlib.Omega.{arith}
use mathlib.Core.Path.{◌≡◌, refl, ap, ap₂, sym, ◌∙◌, subst, fun_ext}
use mathlib.Core.Bool.{true, cond, ◌||◌, false≢true}
use mathlib.Core.List.{[], ◌∷◌}
use mathlib.Core.Option.{Option, none, some}
use lib.ListN.{length}
use lib.Dec.{eqb}
use borrow.Author.Tests.{ne_eqb}
use Rattle.terms.specs.Bits.{Bytes, Side, left, right, Place, longer}
use Rattle.terms.specs.Records.{Child, Body, leaf_body, inner_body, Record, Store}
use Rattle.terms.specs.Form.{place_limit, BodyForm}
use Rattle.terms.proofs.Places.{length_longer}
use Rattle.meaning.specs.Tree.{VTree, vnone, vleaf, vinner, top_version, unversioned, hash}
use Rattle.meaning.specs.Store.{find, root_of, child_on, tree_below, tree_found, tree_from, tree_at_version, child_of}
use Rattle.meaning.specs.Sound.{Kept, Found, Stands, Sound}
use Rattle.meaning.specs.Sight.{Sight, matches, nothing, scan}
use Rattle.meaning.specs.Calls.{Answer, accepted}
use Rattle.meaning.specs.Reading.{Seen, gap, fork, seen_body, seen_child, seen_at, seen_root, seen, body_hash, root_read}
use Rattle.meaning.proofs.Finding.{found_at, at_find, some_body}
use Rattle.meaning.proofs.Roots.{root_at_lem}
use Rattle.meaning.proofs.Sights.{root_sighted, no_root_sighted, node_sighted}
use Rattle.shown.proofs.Views.{on_side, each_side, occupied, Seated, viewed}

module _ (leaf_hash inner_hash : Bytes → Bytes → Bytes) where
  -- The body of the record of a node.
  abbrev HasBody : VTree → Body → Type 0
  HasBody vnone b = ⊥
  HasBody (vleaf v g) b = b ≡ leaf_body g.key g.value
  HasBody (vinner v l r) b = b ≡ inner_body (child_of leaf_hash inner_hash l) (child_of leaf_hash inner_hash r)

  body_hash_lem : (t : VTree) (b : Body) → HasBody t b → body_hash leaf_hash inner_hash b ≡ hash leaf_hash inner_hash (unversioned t)
  unfolding child_of
  body_hash_lem vnone b e = absurd e
  body_hash_lem (vleaf v g) b e = ap (body_hash leaf_hash inner_hash) e
  body_hash_lem (vinner v l r) b e = ap (body_hash leaf_hash inner_hash) e

  child_hash : (l r : VTree) (b : Side) →
      (child_on b (child_of leaf_hash inner_hash l) (child_of leaf_hash inner_hash r)).hash
      ≡ hash leaf_hash inner_hash (on_side (unversioned l) (unversioned r) b)
  unfolding child_of
  child_hash l r = each_side _ refl refl

  one_child : (l r : VTree) → ((child_of leaf_hash inner_hash l).version ≡ 0 → (child_of leaf_hash inner_hash r).version ≡ 0 → ⊥) →
      occupied (unversioned l) || occupied (unversioned r) ≡ true
  unfolding child_of
  one_child vnone vnone f = absurd (f refl refl)
  one_child vnone (vleaf v g) f = refl
  one_child vnone (vinner v l r) f = refl
  one_child (vleaf v g) r f = refl
  one_child (vinner v a b) r f = refl

  module _ (st : Store) (ok : Sound leaf_hash inner_hash st) where
    -- what is found is in form
    record Formed (v : ℕ) (p : Place) (b : Body) : Type 0 where
      version : 1 ≤ v
      short : length p ≤ place_limit b
      body : BodyForm b

    formed : (v : ℕ) (p : Place) (b : Body) → Found st v p b → Formed v p b
    unfolding Found
    formed v p b f =
        let w = found_at st v p f.0 f.1 in
        let form = ok.formed w.0 f.0 w.1 in
        record {
          version = subst (λ n. 1 ≤ n) w.2 form.versioned.0;
          short = subst (λ q. length q ≤ place_limit b) w.3 (subst (λ y. length f.0.place ≤ place_limit y) f.2 form.short);
          body = subst BodyForm f.2 form.body;
        }

    -- a standing tree is seated
    stands_seated : (p : Place) (t : VTree) → Stands leaf_hash inner_hash st p t → Seated p (unversioned t)
    stands_seated p vnone s = tt
    stands_seated p (vleaf v g) s = (s.1, (formed v p _ s.0).body.0)
    stands_seated p (vinner v l r) s =
        let f = formed v p _ s.0 in
        let short : length p ≤ 255 = f.short in
        (omega arith, one_child l r f.body.2, stands_seated (longer left p) l s.2, stands_seated (longer right p) r s.3)

    -- a child that is found is seen by its body
    seen_found_lem : (v : ℕ) (p : Place) (b : Body) (kid : Side → Child → Seen) → Found st v p b →
        cond (eqb v 0) gap (seen_child p ((scan st).node v p) kid) ≡ seen_body p b kid
    unfolding Found
    seen_found_lem v p b kid f =
        let one = (formed v p b f).version in
        rw (ne_eqb v 0 (omega arith), node_sighted st v p f.0 f.1) (ap (λ y. seen_body p y kid) f.2)

    abbrev SeenSo : ℕ → Place → VTree → Type 0
    SeenSo n p t = seen_at n (scan st) p (child_of leaf_hash inner_hash t) ≡ viewed leaf_hash inner_hash (unversioned t)

    children_seen : (n : ℕ) (p : Place) (l r : VTree) → SeenSo n (longer left p) l → SeenSo n (longer right p) r → (b : Side) →
        seen_at n (scan st) (longer b p) (child_on b (child_of leaf_hash inner_hash l) (child_of leaf_hash inner_hash r))
        ≡ on_side (viewed leaf_hash inner_hash (unversioned l)) (viewed leaf_hash inner_hash (unversioned r)) b
    children_seen n p l r f g = each_side _ f g

    -- a standing tree is seen
    stands_seen : (n : ℕ) (p : Place) (t : VTree) → length p + n ≡ 256 → Stands leaf_hash inner_hash st p t → SeenSo n p t
    unfolding child_of
    stands_seen zero p vnone e s = refl
    stands_seen zero p (vleaf v g) e s = seen_found_lem v p _ _ s.0 ∙ rw s.1
    stands_seen zero p (vinner v l r) e s = let short : length p ≤ 255 = (formed v p _ s.0).short in absurd (omega arith)
    stands_seen (suc n) p vnone e s = refl
    stands_seen (suc n) p (vleaf v g) e s = seen_found_lem v p _ _ s.0 ∙ rw s.1
    stands_seen (suc n) p (vinner v l r) e s =
        seen_found_lem v p _ _ s.0
        ∙ ap₂ fork (fun_ext (child_hash l r))
        (fun_ext (children_seen n p l r (stands_seen n (longer left p) l (rw length_longer (omega arith)) s.2)
        (stands_seen n (longer right p) r (rw length_longer (omega arith)) s.3)))

    -- the root record has the body of the root node
    root_body : (t : VTree) (r : Record) → Stands leaf_hash inner_hash st [] t → find (top_version t) [] st.slots ≡ some r →
        occupied (unversioned t) ≡ true →
        HasBody t r.body
    unfolding Found
    root_body vnone r s e o = absurd (false≢true o)
    root_body (vleaf v g) r s e o = let w : s.0.0 ≡ r = cc in ap (λ x. x.body) (sym w) ∙ s.0.2
    root_body (vinner v a b) r s e o = let w : s.0.0 ≡ r = cc in ap (λ x. x.body) (sym w) ∙ s.0.2

    -- what is seen at the root, from its record
    root_seen : (n : ℕ) (t : VTree) (r : Record) → suc n ≡ 256 → Stands leaf_hash inner_hash st [] t → 1 ≤ top_version t →
        find (top_version t) [] st.slots ≡ some r →
        seen_body [] r.body (λ b d. seen_at n (scan st) (b ∷ []) d) ≡ viewed leaf_hash inner_hash (unversioned t)
    unfolding child_of longer
    root_seen n t r m s one e = rw (ne_eqb (top_version t) 0 (omega arith), node_sighted st (top_version t) [] r e) at (stands_seen (suc n) [] t (omega arith) s)

    -- the tree at a root record
    module _ (v : ℕ) (below : Side → ℕ → VTree) where
      is_there_lem : (r : Record) → occupied (unversioned (tree_found (some r) below)) ≡ true
      is_there_lem r = go r.body
        where
          go : (b : Body) → occupied (unversioned (tree_below r.version b below)) ≡ true
          go (leaf_body k x) = refl
          go (inner_body a b) = refl

      at_root_lem : (r : Record) → root_of st v ≡ some r →
          (1 ≤ top_version (tree_found (some r) below)) × (find (top_version (tree_found (some r) below)) [] st.slots ≡ some r)
      at_root_lem r e =
          let (i, a, p, l) = root_at_lem st v r e in
          let one = (ok.versions i r a).0 in
          let top = (some_body r.version r.body below).1 in
          (omega arith, ap₂ (λ w q. find w q st.slots) top (sym p) ∙ at_find st ok.unique i r a)

      seen_go : (n : ℕ) (o : Option Record) → suc n ≡ 256 → root_of st v ≡ o → Stands leaf_hash inner_hash st [] (tree_found o below) →
          seen_root ((scan st).root v) (λ b d. seen_at n (scan st) (b ∷ []) d) ≡ viewed leaf_hash inner_hash (unversioned (tree_found o below))
      seen_go n none m e s = rw (no_root_sighted st v ok.whole e)
      seen_go n (some r) m e s = rw (root_sighted st v r e) (root_seen n (tree_found (some r) below) r m s (at_root_lem r e).0 (at_root_lem r e).1)

      hash_go : (o : Option Record) → root_of st v ≡ o → Stands leaf_hash inner_hash st [] (tree_found o below) →
          root_read leaf_hash inner_hash ((scan st).root v) ≡ accepted (hash leaf_hash inner_hash (unversioned (tree_found o below)))
      hash_go none e s = rw (no_root_sighted st v ok.whole e)
      hash_go (some r) e s =
          rw (root_sighted st v r e)
          (ap accepted (body_hash_lem (tree_found (some r) below) r.body (root_body (tree_found (some r) below) r s (at_root_lem r e).1 (is_there_lem r))))

    -- what a read sees of a kept version is its tree
    pub version_seen : (v : ℕ) → Kept st v → seen (scan st) v ≡ viewed leaf_hash inner_hash (unversioned (tree_at_version st v))
    unfolding seen tree_at_version
    version_seen v kept = seen_go v (λ b w. tree_from 255 st.slots w (b ∷ [])) 255 (root_of st v) refl refl (ok.stands v kept)

    -- the root read gives its hash
    pub version_hash : (v : ℕ) → Kept st v →
        root_read leaf_hash inner_hash ((scan st).root v) ≡ accepted (hash leaf_hash inner_hash (unversioned (tree_at_version st v)))
    unfolding tree_at_version
    version_hash v kept = hash_go v (λ b w. tree_from 255 st.slots w (b ∷ [])) (root_of st v) refl (ok.stands v kept)

    -- and the tree is seated
    pub version_seated : (v : ℕ) → Kept st v → Seated [] (unversioned (tree_at_version st v))
    version_seated v kept = stands_seated [] (tree_at_version st v) (ok.stands v kept)
