-- In a sound store the records are right one by one. Each record lives at the first kept version of its life and at the last, so it is
-- seen in the trees of both; what those trees say of its children holds from the first to the last. Assumes nothing.
use Prim.Native.Nat.{ℕ, suc, ◌-◌, ◌<◌, ◌≤◌}
use native.Mathlib.Omega.{arith}
use mathlib.Core.Path.{◌≡◌, refl, ap, ap₂, sym, ◌∙◌, subst, subst₂}
use mathlib.Core.Logic.{◌⊎◌, inl, inr}
use mathlib.Core.Bool.{true, false, not, true≢false}
use mathlib.Core.List.{[]}
use mathlib.Core.Option.{Option, none, some}
use lib.ListN.{length}
use Rattle.terms.specs.declared.Form.TheVariants.{Counted as counted}
use Rattle.terms.specs.Bits.{Bytes, Side, left, right, Place, longer}
use Rattle.terms.specs.Records.{Grant, Child, Body, leaf_body, inner_body, tally, Record, Store}
use Rattle.terms.specs.Form.{CountsForm}
use Rattle.terms.proofs.Places.{length_longer}
use Rattle.meaning.specs.Tree.{VTree, vnone, vleaf, vinner, top_version, kid, unversioned, hash}
use Rattle.meaning.specs.Store.{find, root_of, tree_at_version, child_of}
use Rattle.meaning.specs.Reading.{body_hash}
use Rattle.meaning.specs.Sound.{At, Found, CountsAre, Stands, NodeOf, Kept, Lives, only_leaf, Sound}
use Rattle.meaning.specs.Local.{Local, Linked, missing, found, BodyFits, ends_before, child_version, LoneLeaf, counts_by}
use Rattle.meaning.proofs.Counts.{tell_counts, found_counts, stands_weighs}
use Rattle.meaning.proofs.Finding.{found_at, same_record_lem, at_find, Within, there, go_kid, Some, some_leaf, some_inner, none_not, within_node, within_trans}
use Rattle.meaning.proofs.Roots.{top_root}
use Rattle.local.specs.Test.{first_kept}
use Rattle.local.proofs.Lifetimes.{Living, EndsKept, ParentAt, living_lives, lives_living, life_ends}
use Rattle.local.proofs.Above.{subtree, within_top, Above, above}

-- a leaf has a sibling
has_sibling : (b : Side) (w x : ℕ) (g : Grant) (l r : VTree) → only_leaf l r ≡ false →
    kid b (vinner w l r) ≡ vleaf x g → kid (not b) (vinner w l r) ≡ vnone → ⊥
has_sibling false w x g l r h e f = true≢false (subst₂ (λ s t. only_leaf s t ≡ false) e f h)
has_sibling true w x g l r h e f = true≢false (subst₂ (λ s t. only_leaf s t ≡ false) f e h)

none_or_some : (u : VTree) → (u ≡ vnone) ⊎ Some u
none_or_some vnone = inl refl
none_or_some (vleaf w g) = inr some_leaf
none_or_some (vinner w l r) = inr some_inner

some_of : (u : VTree) → 1 ≤ top_version u → Some u
some_of vnone h = absurd (omega arith)
some_of (vleaf w g) h = some_leaf
some_of (vinner w l r) h = some_inner

module _ (leaf_hash inner_hash : Bytes → Bytes → Bytes) where
  -- what a record says of the tree at a child
  abbrev child_at : VTree → Child
  child_at t = child_of leaf_hash inner_hash t

  -- what the record of a node holds
  abbrev node_body : VTree → Body
  node_body vnone = leaf_body [] []
  node_body (vleaf v g) = leaf_body g.key g.value
  node_body (vinner v l r) = inner_body (child_at l) (child_at r)

  node_hash : (u : VTree) → Some u → body_hash leaf_hash inner_hash (node_body u) ≡ hash leaf_hash inner_hash (unversioned u)
  unfolding child_of
  node_hash vnone s = elim s [ ]
  node_hash (vleaf w g) s = refl
  node_hash (vinner w l r) s = refl

  kid_version : (b : Side) (w : ℕ) (l r : VTree) → child_version b (node_body (vinner w l r)) ≡ top_version (kid b (vinner w l r))
  unfolding child_of
  kid_version false w l r = refl
  kid_version true w l r = refl

  module _ (st : Store) (ok : Sound leaf_hash inner_hash st) where
    abbrev Standing : Place → VTree → Type 0
    Standing p t = Stands leaf_hash inner_hash st p t

    stands_kid : (b : Side) (p : Place) (w : ℕ) (l r : VTree) →
        Standing p (vinner w l r) → Standing (longer b p) (kid b (vinner w l r))
    stands_kid false p w l r s = s.2
    stands_kid true p w l r s = s.3

    within_stands : {u : VTree} {q : Place} {t : VTree} {p : Place} → Within u q t p → Standing p t → Standing q u
    within_stands there s = s
    within_stands (go_kid b {w = x} {l = l} {r = r} {p = p} w) s = within_stands w (stands_kid b p x l r s)

    -- the record of a standing node
    record Holder (u : VTree) (q : Place) : Type 0 where
      slot : ℕ
      rec : Record
      at : At st slot rec
      place : rec.place ≡ q
      version : rec.version ≡ top_version u
      body : rec.body ≡ node_body u

    held : (u : VTree) (q : Place) → Found st (top_version u) q (node_body u) → Holder u q
    unfolding Found
    held u q (r, e, f) =
        let w = found_at st (top_version u) q r e in record { slot = w.0; rec = r; at = w.1; place = w.3; version = w.2; body = f }

    holder : (u : VTree) (q : Place) → Some u → Standing q u → Holder u q
    holder vnone q h s = elim h [ ]
    holder (vleaf v g) q h s = held (vleaf v g) q s.0
    holder (vinner v l r) q h s = held (vinner v l r) q s.0

    -- the life of a record
    ends : (i : ℕ) (r : Record) → At st i r → EndsKept st r
    ends i r a = life_ends st r ok.header.0 (ok.versions i r a).1 (ok.lifetimes i r a)

    -- a record that lives at a kept version, seen in its tree
    record Seen (r : Record) (v : ℕ) : Type 0 where
      tree : VTree
      within : Within tree r.place (tree_at_version st v) []
      stands : Standing r.place tree
      here : Some tree
      body : r.body ≡ node_body tree
      version : top_version tree ≡ r.version

    seen : (v i : ℕ) (r : Record) → At st i r → Kept st v → Living st v r → Seen r v
    seen v i r a k l =
        let u = subtree r.version r.place (tree_at_version st v) [] ((ok.exact v k i r a).1 (living_lives st r v l)) in
        let s = within_stands u.within (ok.stands v k) in
        let h = holder u.tree r.place u.here s in
        let e : h.rec ≡ r = same_record_lem st ok.unique h.slot i h.rec r h.at a (h.version ∙ u.version) h.place in
        record {
          tree = u.tree;
          within = u.within;
          stands = s;
          here = u.here;
          body = sym (ap (λ x. x.body) e) ∙ h.body;
          version = u.version;
        }

    -- the record of what stands in the tree of v lives at v
    holder_living : (v : ℕ) → Kept st v → (u : VTree) (q : Place) → Some u → Within u q (tree_at_version st v) [] →
        (h : Holder u q) → Living st v h.rec
    holder_living v k u q s w h =
        lives_living st h.rec v k.1
        ((ok.exact v k h.slot h.rec h.at).0
        (subst₂ (λ x p. NodeOf x p (tree_at_version st v) []) (sym h.version) (sym h.place) (within_node s w)))

    -- what is there has a version
    some_version : (u : VTree) (q : Place) → Some u → Standing q u → 1 ≤ top_version u
    some_version u q s h = let k = holder u q s h in omega (arith, ok.versions k.slot k.rec k.at, k.version)

    no_version_none : (u : VTree) (q : Place) → Standing q u → top_version u ≡ 0 → u ≡ vnone
    no_version_none u q h e = elim (none_or_some u) [ inl n ↦ n | inr s ↦ absurd (omega (arith, some_version u q s h)) ]

    -- a node is no leaf where it has no sibling
    sibling : (b : Side) (w : ℕ) (l r : VTree) (p : Place) → Standing p (vinner w l r) →
        (k : VTree) → kid b (vinner w l r) ≡ k → Some k → LoneLeaf (child_at (kid (not b) (vinner w l r))) (node_body k) → ⊥
    unfolding child_of
    sibling b w l r p s vnone e h z = elim h [ ]
    sibling b w l r p s (vleaf x g) e h z =
        has_sibling b w x g l r s.1 e (no_version_none (kid (not b) (vinner w l r)) (longer (not b) p) (stands_kid (not b) p w l r s) z)
    sibling b w l r p s (vinner x y t) e h z = z

    -- a child k of the record r, beside d; at the last version of r's life k' stands there with the same version
    module _ (i : ℕ) (r : Record) (a : At st i r) (v : ℕ) (end : suc v ≡ ends_before st r) where
      first_kept_lem : Kept st (first_kept st r) × Living st (first_kept st r) r
      first_kept_lem =
          let e = ends i r a in
          let f = ok.versions i r a in
          let g = ok.header in
          ((omega arith, omega arith), (omega arith, omega arith))

      last_kept : Kept st v × Living st v r
      last_kept = let e = ends i r a in ((omega arith, omega arith), (omega arith, omega arith))

      some_linked : (p : Place) (k k' : VTree) (d : Child) → Some k → Some k' →
          Within k p (tree_at_version st (first_kept st r)) [] → Within k' p (tree_at_version st v) [] → top_version k' ≡ top_version k →
          (LoneLeaf d (node_body k) → ⊥) → Linked leaf_hash inner_hash st r p (child_at k) d
      unfolding child_of
      some_linked p k k' d s s' w w' e lone =
          let f = first_kept_lem.0 in
          let l = last_kept.0 in
          let q = holder k p s (within_stands w (ok.stands _ f)) in
          let q' = holder k' p s' (within_stands w' (ok.stands v l)) in
          let same : q'.rec ≡ q.rec
          = same_record_lem st ok.unique q'.slot q.slot q'.rec q.rec q'.at q.at
          (q'.version ∙ e ∙ sym q.version) (q'.place ∙ sym q.place) in
          let begun : Living st (first_kept st r) q.rec = holder_living _ f k p s w q in
          let lasts : Living st v q.rec = subst (Living st v) same (holder_living v l k' p s' w' q') in
          found q.slot q.rec q.at q.place q.version
          (ap (body_hash leaf_hash inner_hash) q.body ∙ node_hash k s) begun.0 (omega arith) (λ z. lone (subst (LoneLeaf d) q.body z))

      linked : (p : Place) (k k' : VTree) (d : Child) →
          Within k p (tree_at_version st (first_kept st r)) [] → Within k' p (tree_at_version st v) [] → top_version k' ≡ top_version k →
          (Some k → LoneLeaf d (node_body k) → ⊥) → Linked leaf_hash inner_hash st r p (child_at k) d
      unfolding child_of
      linked p k k' d w w' e lone =
          elim (none_or_some k) [
            | inl n ↦ missing (ap top_version n)
            | inr s ↦
                let u = some_version k p s (within_stands w (ok.stands _ first_kept_lem.0)) in
                some_linked p k k' d s (some_of k' (omega arith)) w w' e (lone s)
          ]

      body_fits : (u u' : VTree) → Some u → Some u' → node_body u ≡ node_body u' →
          Within u r.place (tree_at_version st (first_kept st r)) [] → Standing r.place u →
          Within u' r.place (tree_at_version st v) [] → BodyFits leaf_hash inner_hash st r (node_body u)
      body_fits (vinner x l m) vnone s s' e w b w' = elim s' [ ]
      body_fits vnone u' s s' e w b w' = elim s [ ]
      body_fits (vleaf x g) u' s s' e w b w' = b.1
      body_fits (vinner x l m) (vleaf y g) s s' e w b w' = let z : ◌≡◌ {A = ℕ} 0 1 = cc in absurd (omega arith)
      body_fits (vinner x l m) (vinner y l' m') s s' e w b w' = (kid_linked left, kid_linked right)
        where
          kid_linked : (c : Side) →
              Linked leaf_hash inner_hash st r (longer c r.place) (child_at (kid c (vinner x l m))) (child_at (kid (not c) (vinner x l m)))
          kid_linked c =
              linked (longer c r.place) (kid c (vinner x l m)) (kid c (vinner y l' m')) (child_at (kid (not c) (vinner x l m)))
              (within_trans (go_kid c there) w) (within_trans (go_kid c there) w')
              (sym (kid_version c y l' m') ∙ ap (child_version c) (sym e) ∙ kid_version c x l m)
              (λ k. sibling c x l m r.place b (kid c (vinner x l m)) refl k)

    last_version : (i : ℕ) (r : Record) → At st i r → (v : ℕ) × (suc v ≡ ends_before st r)
    last_version i r a = let e = ends i r a in (ends_before st r - 1, omega arith)

    bodies : (i : ℕ) (r : Record) → At st i r → BodyFits leaf_hash inner_hash st r r.body
    bodies i r a =
        let (v, e) = last_version i r a in
        let f = first_kept_lem i r a v e in
        let l = last_kept i r a v e in
        let u = seen _ i r a f.0 f.1 in
        let u' = seen v i r a l.0 l.1 in
        subst (BodyFits leaf_hash inner_hash st r) (sym u.body)
        (body_fits i r a v e u.tree u'.tree u.here u'.here (sym u.body ∙ u'.body) u.within u.stands u'.within)

    -- the counts of the record of a standing node are those that the records found as its children say
    node_counts : (u : VTree) (q : Place) → Some u → Standing q u → (i : ℕ) (r : Record) → At st i r →
        find (top_version u) q st.slots ≡ some r → r.body ≡ node_body u → st.form ≡ counted →
        r.counts ≡ counts_by st.slots q (node_body u)
    unfolding child_of
    node_counts vnone q h s i r a e b f = elim h [ ]
    node_counts (vleaf v g) q h s i r a e b f = subst (λ o. CountsForm o r.counts) b (ok.formed i r a).counts
    node_counts (vinner v x y) q h s i r a e b f =
        let weighs = stands_weighs leaf_hash inner_hash st f (λ j m d. (ok.versions j m d).0) in
        found_counts st f v q _ r e s.4 ∙ sym (ap₂ tally (weighs (longer left q) x s.2) (weighs (longer right q) y s.3))

    counts : (i : ℕ) (r : Record) → At st i r → CountsAre st.form r.counts (counts_by st.slots r.place r.body)
    counts i r a =
        let (v, e) = last_version i r a in
        let l = last_kept i r a v e in
        let u = seen v i r a l.0 l.1 in
        let found = ap (λ w. find w r.place st.slots) u.version ∙ at_find st ok.unique i r a in
        tell_counts st.form (λ f.
        node_counts u.tree r.place u.here u.stands i r a found u.body f
        ∙ ap (counts_by st.slots r.place) (sym u.body))

    -- a root record that lives at v stands at the top of v's tree, so it is v's root
    roots : (v : ℕ) → Kept st v → (i : ℕ) (r : Record) → At st i r → r.place ≡ [] → Lives v r → root_of st v ≡ some r
    roots v k i r a e l = top_root st v ok.unique i r a e ((ok.exact v k i r a).1 l)

    -- the node above a record, in each tree of its life, is its parent
    parent_above : (p : Place) (b : Side) (v : ℕ) (r : Record) → Kept st v → (u : VTree) → top_version u ≡ r.version →
        Above u p b (tree_at_version st v) [] → ParentAt st p b v r
    parent_above p b v r k u e x =
        go (holder (vinner x.version x.lefts x.rights) p some_inner (within_stands x.within (ok.stands v k)))
      where
        go : Holder (vinner x.version x.lefts x.rights) p → ParentAt st p b v r
        go h = (
          h.slot,
          h.rec,
          h.at,
          h.place,
          holder_living v k (vinner x.version x.lefts x.rights) p some_inner x.within h,
          ap (child_version b) h.body ∙ kid_version b x.version x.lefts x.rights ∙ ap top_version x.child ∙ e,
        )

    parents : (i : ℕ) (r : Record) (p : Place) (b : Side) → At st i r → r.place ≡ longer b p →
        (v : ℕ) → st.oldest ≤ v → r.version ≤ v → v < ends_before st r → ParentAt st p b v r
    parents i r p b a e v low begun lasts =
        let k : Kept st v = (low, omega (arith, ends i r a)) in
        let u = seen v i r a k (begun, lasts) in
        parent_above p b v r k u.tree u.version (above u.within (omega (arith, ap length e, length_longer b p)) p b e)

    pub sound_is_local : Local leaf_hash inner_hash st
    sound_is_local = record {
      size = ok.size;
      header = ok.header;
      whole = ok.whole;
      formed = ok.formed;
      unique = ok.unique;
      versions = ok.versions;
      lifetimes = ok.lifetimes;
      roots = roots;
      bodies = bodies;
      counts = counts;
      parents = parents;
    }
