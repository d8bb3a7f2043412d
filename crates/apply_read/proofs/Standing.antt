-- A node that is found in a tree that stands is the top of the tree: its record is the one that the tree has there. Assumes nothing.
use Prim.Native.Nat.{ℕ, ◌+◌, ◌<◌, ◌≤◌}
use native.Mathlib.Omega.{arith}
use mathlib.Core.Path.{◌≡◌, refl, ap, sym, ◌∙◌, subst}
use mathlib.Core.Bool.{true, false}
use mathlib.Core.Option.{none, some, none-ne-some, some-injective}
use lib.ListN.{length, get_or}
use Rattle.terms.specs.declared.Form.TheVariants.{Counted as counted}
use Rattle.terms.specs.Bits.{Bytes, Place, left, right}
use Rattle.terms.specs.Records.{grant, Child, leaf_body, inner_body, Tally, tally, Record, free, used, Store}
use Rattle.terms.specs.Form.{RecordForm}
use Rattle.terms.proofs.Lists.{all_at}
use Rattle.meaning.specs.Tree.{VTree, vnone, vleaf, vinner, top_version, kid, leaves}
use Rattle.meaning.specs.Store.{find, child_of}
use Rattle.meaning.specs.Sound.{Found, Tallied, Stands}
use Rattle.meaning.proofs.Counts.{counts_told}
use Rattle.meaning.proofs.Leaves.{few_leaves}
use Rattle.meaning.proofs.Finding.{is_node_eq}
use Rattle.hash.specs.Hash.{hash_bytes}
use Rattle.nodehash.specs.Node.{leaf_hash, inner_hash}
use Rattle.place.specs.declared.Place as place
use Rattle.place.specs.Place.{place_of}
use Rattle.layout.specs.Slots.{SlotForm}
use Rattle.layout.specs.Stores.{store_of}
use Rattle.std.specs.declared.option.Option as option
use Rattle.std.specs.Prelude.{Some, None}
use Rattle.lookup.specs.Lookup.{FoundIn}
use Rattle.apply_place.specs.declared.Node as node
use Rattle.apply_place.specs.declared.Node.TheVariants as N
use Rattle.apply_place.proofs.Changing.{stored_accepted}
use Rattle.apply_place.proofs.Marking.{found_none, found_at, found_node}
use Rattle.apply_outcome.specs.Outcomes.{NodeSays}
use Rattle.apply_read.specs.declared.Onward as onward
use Rattle.apply_read.specs.declared.Onward.TheVariants.{End, Inner}
use Rattle.apply_read.specs.Held.{Used, version_of, version_in, HoldsNode, NodeHeld, GoesOn}
use Rattle.apply_read.specs.Standing.{tree_here, Standing, is_inner}

leaf_inner : {A : Type 0} {k x : Bytes} {l r : Child} → leaf_body k x ≡ inner_body l r → A
leaf_inner e = let z : ◌≡◌ {A = ℕ} 0 1 = cc in absurd (omega arith)

leaf_same : {k x k' x' : Bytes} → leaf_body k x ≡ leaf_body k' x' → grant k' x' ≡ grant k x
leaf_same e = cc

inner_same : {l r l' r' : Child} → inner_body l r ≡ inner_body l' r' → (l ≡ l') × (r ≡ r')
inner_same e = (cc, cc)

-- the counts of a record are the numbers of leaves, which are not more than the slots
abbrev Numbers : Store → Tally → VTree → VTree → Type 0
Numbers st c a b = (c ≡ tally (leaves a) (leaves b)) × (leaves a + leaves b ≤ length st.slots)

module _ (st : Store) (q : Place) (v : ℕ) (t : VTree) (stands : Stands leaf_hash inner_hash st q t) (top : top_version t ≡ v) where
  -- no record, no tree
  top_none : find v q st.slots ≡ none → t ≡ vnone
  unfolding Found
  top_none e = go t stands top
    where
      go : (u : VTree) → Stands leaf_hash inner_hash st q u → top_version u ≡ v → u ≡ vnone
      go vnone s f = refl
      go (vleaf w g) s f = absurd (none-ne-some s.0.0 (sym e ∙ ap (λ x. find x q st.slots) (sym f) ∙ s.0.1))
      go (vinner w a b) s f = absurd (none-ne-some s.0.0 (sym e ∙ ap (λ x. find x q st.slots) (sym f) ∙ s.0.1))

  module _ (r : Record) (e : find v q st.slots ≡ some r) (form : RecordForm r) where
    its_own : r.version ≡ v
    its_own = (is_node_eq v q r (found_node 0 v q st.slots r e)).0

    -- a leaf, or an inner node
    top_leaf : (k x : Bytes) → r.body ≡ leaf_body k x → t ≡ vleaf v (grant k x)
    unfolding Found
    top_leaf k x h = go t stands top
      where
        go : (u : VTree) → Stands leaf_hash inner_hash st q u → top_version u ≡ v → u ≡ vleaf v (grant k x)
        go vnone s f = absurd (omega (arith, form.versioned, its_own))
        go (vleaf w g) s f =
            let m : s.0.0 ≡ r = some-injective s.0.0 r (sym s.0.1 ∙ ap (λ y. find y q st.slots) f ∙ e) in
            rw f (ap (vleaf v) (leaf_same (sym h ∙ ap (λ (y : Record). y.body) (sym m) ∙ s.0.2)))
        go (vinner w a b) s f =
            let m : s.0.0 ≡ r = some-injective s.0.0 r (sym s.0.1 ∙ ap (λ y. find y q st.slots) f ∙ e) in
            leaf_inner (sym h ∙ ap (λ (y : Record). y.body) (sym m) ∙ s.0.2)

    top_inner : st.form ≡ counted → (l c : Child) → r.body ≡ inner_body l c →
        (a : VTree) × (b : VTree) × (t ≡ vinner v a b) × (l ≡ child_of leaf_hash inner_hash a) × (c ≡ child_of leaf_hash inner_hash b) ×
        Numbers st r.counts a b
    unfolding Found Tallied
    top_inner counts l c h = go t stands top
      where
        go : (u : VTree) → Stands leaf_hash inner_hash st q u → top_version u ≡ v →
            (a : VTree) × (b : VTree) × (u ≡ vinner v a b) × (l ≡ child_of leaf_hash inner_hash a) × (c ≡ child_of leaf_hash inner_hash b) ×
            Numbers st r.counts a b
        go vnone s f = absurd (omega (arith, form.versioned, its_own))
        go (vleaf w g) s f =
            let m : s.0.0 ≡ r = some-injective s.0.0 r (sym s.0.1 ∙ ap (λ y. find y q st.slots) f ∙ e) in
            leaf_inner (sym (sym h ∙ ap (λ (y : Record). y.body) (sym m) ∙ s.0.2))
        go (vinner w a b) s f =
            let m : s.0.0 ≡ r = some-injective s.0.0 r (sym s.0.1 ∙ ap (λ y. find y q st.slots) f ∙ e) in
            let n = inner_same (sym h ∙ ap (λ (y : Record). y.body) (sym m) ∙ s.0.2) in
            let (k, i, j) = s.4 in
            let o : k ≡ r = some-injective k r (sym i ∙ ap (λ y. find y q st.slots) f ∙ e) in
            let few = few_leaves leaf_hash inner_hash st q (vinner w a b) s in
            (a, b, ap (λ y. vinner y a b) f, n.0, n.1, (sym (ap (λ (y : Record). y.counts) o) ∙ counts_told st.form counts j, few))

-- over the bytes
module _ {s : Bytes} {p : place.Place} {v : ℕ} (w : Standing s p v) {o : option.Option ℕ} (f : FoundIn (store_of s).slots v (place_of p) o) where
  pub node_none : o ≡ None → tree_here s p v ≡ vnone
  node_none e = top_none (store_of s) (place_of p) v (tree_here s p v) w.stands w.top (found_none v (place_of p) (store_of s).slots e f)

  module _ {i : ℕ} (e : o ≡ Some i) where
    abbrev hit : (i < length (store_of s).slots) × ((r : Record) × (get_or (store_of s).slots i free ≡ used r) × (find v (place_of p) (store_of s).slots ≡ some r))
    hit = found_at v (place_of p) (store_of s).slots e f

    -- the slot found is used, and has the version sought
    pub slot_used : Used s i
    slot_used = record { stored = w.stored; within = hit.0; held = hit.1.0; slot = hit.1.1 }

    its_form : RecordForm hit.1.0
    its_form = (subst (SlotForm counted) hit.1.1 (all_at (SlotForm counted) (store_of s).slots free i w.stored.form.each hit.0)).0

    its_version : hit.1.0.version ≡ v
    its_version = (is_node_eq v (place_of p) hit.1.0 (found_node 0 v (place_of p) (store_of s).slots hit.1.0 hit.1.2)).0

    pub slot_version : version_in s i ≡ v
    slot_version = ap version_of hit.1.1 ∙ its_version

    -- the record it holds is the top of the tree
    pub leaf_there : {k x : Bytes} → hit.1.0.body ≡ leaf_body k x → tree_here s p v ≡ vleaf v (grant k x)
    leaf_there {k} {x} b =
        top_leaf (store_of s) (place_of p) v (tree_here s p v) w.stands w.top hit.1.0 hit.1.2 its_form k x b

    pub inner_there : {l r : Child} → hit.1.0.body ≡ inner_body l r →
        (a : VTree) × (b : VTree) × (tree_here s p v ≡ vinner v a b) × (l ≡ child_of leaf_hash inner_hash a) × (r ≡ child_of leaf_hash inner_hash b) ×
        Numbers (store_of s) hit.1.0.counts a b
    inner_there {l} {r} b =
        top_inner (store_of s) (place_of p) v (tree_here s p v) w.stands w.top hit.1.0 hit.1.2 its_form refl l r b

    pub node_there : (n : node.Node) → NodeHeld s i n → NodeSays true n (tree_here s p v)
    node_there n h = go n (h hit.1.0 hit.1.1)
      where
        go : (m : node.Node) → HoldsNode m hit.1.0 → NodeSays true m (tree_here s p v)
        go N.Nothing b = absurd b
        go (N.Leaf u k x) b = leaf_there b.1 ∙ ap (λ z. vleaf z (grant (hash_bytes k) (hash_bytes x))) (sym (b.0 ∙ its_version))
        go (N.Inner u l r m n) b =
            let (x, y, t, g, d, ns) = inner_there b.1 in
            let e : tally m n ≡ tally (leaves x) (leaves y) = sym b.2 ∙ ns.0 in
            let i = ap (λ (c : Tally). c.leftward) e in
            let o = ap (λ (c : Tally). c.rightward) e in
            let a = (stored_accepted w.stored).fits in
            (x, y, t ∙ ap (λ z. vinner z x y) (sym (b.0 ∙ its_version)), g, d, (record { left_is = i; right_is = o; few = omega (arith, i, o, a, ns.1) }))

    -- an inner node stands there exactly if the steps go on
    pub ends_there : {d : onward.Onward} → d ≡ End → GoesOn s (Some i) d → is_inner (tree_here s p v) ≡ false
    ends_there z g = let (k, x, b) = subst (GoesOn s (Some i)) z g hit.1.0 hit.1.1 in ap is_inner (leaf_there b)

    pub goes_there : {d : onward.Onward} {j l r : ℕ} → d ≡ Inner j l r → GoesOn s (Some i) d →
        (j ≡ i) × (is_inner (tree_here s p v) ≡ true) × (l ≡ top_version (kid left (tree_here s p v))) × (r ≡ top_version (kid right (tree_here s p v)))
    unfolding child_of
    goes_there z g =
        let (j, h) = subst (GoesOn s (Some i)) z g in
        let (lchild, rchild, b, k, m) = h hit.1.0 hit.1.1 in
        let (x, y, t, q, u, ns) = inner_there b in (
          j,
          ap is_inner t,
          k ∙ ap (λ (c : Child). c.version) q ∙ sym (ap (λ z. top_version (kid left z)) t),
          m ∙ ap (λ (c : Child). c.version) u ∙ sym (ap (λ z. top_version (kid right z)) t),
        )
