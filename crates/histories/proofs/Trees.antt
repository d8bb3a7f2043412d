-- In a sound store each kept version's tree is shaped, so it is the tree of its grants: an inner record has a child, and no lone leaf.
-- Assumes nothing.
use Prim.Native.Nat.{ℕ}
use mathlib.Core.Path.{◌≡◌, refl, ap, ap₂, sym, ◌∙◌, subst}
use mathlib.Core.List.{[]}
use mathlib.Core.Option.{Option, none, some, some-injective}
use Rattle.terms.specs.Bits.{Bytes, left, right, Place, longer}
use Rattle.terms.specs.Records.{Body, Record, Store}
use Rattle.terms.specs.Form.{BodyForm}
use Rattle.meaning.specs.Tree.{hash, VTree, vnone, vleaf, vinner, unversioned, top_version}
use Rattle.meaning.specs.Store.{find, root_of, tree_at_version, child_of}
use Rattle.meaning.specs.Sound.{Kept, Found, Stands}
use Rattle.meaning.specs.Sight.{sighted}
use Rattle.meaning.specs.Calls.{accepted}
use Rattle.meaning.specs.Reading.{body_hash, root_read}
use Rattle.meaning.proofs.Finding.{Within, there, go_kid, Some, some_leaf, some_inner}
use Rattle.meaning.proofs.Roots.{root_none, root_some}
use Rattle.meaning.proofs.Shaped.{Shaped, kid_shaped, two_grants_below}
use Rattle.histories.proofs.Standing.{Formed, found_record, inner_short}
use Rattle.histories.proofs.Slots.{unique_find, root_has}
use Rattle.histories.proofs.Whole.{Whole}

pub within_shaped : {u : VTree} {q : Place} {t : VTree} {p : Place} → Within u q t p → Shaped p (unversioned t) → Shaped q (unversioned u)
within_shaped there s = s
within_shaped (go_kid b {w = v} {l = l} {r = r} {p = p} w) s = within_shaped w (kid_shaped b p (vinner v l r) s)

module _ (leaf_hash inner_hash : Bytes → Bytes → Bytes) (st : Store) (z : Formed st.slots) where
  found_form : (v : ℕ) (p : Place) (b : Body) → Found st v p b → BodyForm b
  found_form v p b f = let r = found_record st v p b f in subst BodyForm r.4 (z r.0 r.1).body

  -- where records are in form, a tree that stands is shaped
  pub stands_shaped : (p : Place) (t : VTree) → Stands leaf_hash inner_hash st p t → Shaped p (unversioned t)
  unfolding child_of
  stands_shaped p vnone s = tt
  stands_shaped p (vleaf v g) s = (s.1, found_form v p _ s.0)
  stands_shaped p (vinner v l r) s =
      let a : Shaped (longer left p) (unversioned l) = stands_shaped (longer left p) l s.2 in
      let b : Shaped (longer right p) (unversioned r) = stands_shaped (longer right p) r s.3 in
      let two = two_grants_below l r (longer left p) (longer right p) (found_form v p _ s.0).2 s.1 a b in
      (inner_short st z v p _ s.0, two, a, b)

module _ (leaf_hash inner_hash : Bytes → Bytes → Bytes) (st : Store) (w : Whole leaf_hash inner_hash st) where
  pub kept_shaped : (v : ℕ) → Kept st v → Shaped [] (unversioned (tree_at_version st v))
  kept_shaped v k = stands_shaped leaf_hash inner_hash st w.formed [] (tree_at_version st v) (w.stands v k)

  -- the hash of the record at the top alone is the hash of the tree
  found_body : (v : ℕ) (r : Record) (b : Body) → find v [] st.slots ≡ some r → Found st v [] b → r.body ≡ b
  unfolding Found
  found_body v r b f g = ap (λ y. y.body) (some-injective r g.0 (sym f ∙ g.1)) ∙ g.2

  record_hash : (t : VTree) → Some t → Stands leaf_hash inner_hash st [] t → (r : Record) → find (top_version t) [] st.slots ≡ some r →
      body_hash leaf_hash inner_hash r.body ≡ hash leaf_hash inner_hash (unversioned t)
  unfolding child_of
  record_hash vnone x3 s r f = elim x3 [ ]
  record_hash (vleaf x g) some_leaf s r f = ap (body_hash leaf_hash inner_hash) (found_body x r _ f s.0)
  record_hash (vinner x a b) some_inner s r f = ap (body_hash leaf_hash inner_hash) (found_body x r _ f s.0)

  pub root_hash : (v : ℕ) → Kept st v →
      root_read leaf_hash inner_hash (sighted (root_of st v) none) ≡ accepted (hash leaf_hash inner_hash (unversioned (tree_at_version st v)))
  root_hash v k = go (root_of st v) refl
    where
      go : (o : Option Record) → root_of st v ≡ o →
          root_read leaf_hash inner_hash (sighted o none) ≡ accepted (hash leaf_hash inner_hash (unversioned (tree_at_version st v)))
      go none e = ap (λ t. accepted (hash leaf_hash inner_hash (unversioned t))) (sym (root_none st v e))
      go (some r) e =
          let (h, p, l) = root_has st v r e in
          let top = root_some st v r e in
          ap accepted (record_hash (tree_at_version st v) top.0 (w.stands v k) r
          (ap₂ (λ x q. find x q st.slots) top.1 (sym p) ∙ unique_find st.slots r w.unique h))
