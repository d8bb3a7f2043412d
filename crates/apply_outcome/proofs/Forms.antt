-- The records of a shaped tree are in form, where its versions are numbers of four bytes. Assumes nothing.
use Prim.Native.Nat.{ℕ, ◌<◌, ◌≤◌}
use native.Mathlib.Omega.{arith}
use mathlib.Core.Path.{◌≡◌, refl, ap, sym, ◌∙◌, subst}
use mathlib.Core.Bool.{Bool, true, false, cond, false≢true}
use mathlib.Core.List.{List, [], ◌∷◌, ◌++◌}
use lib.ListN.{length}
use Rattle.terms.specs.Bits.{All, Place, longer, left, right, bits, begins}
use Rattle.terms.specs.Records.{Child, Grant}
use Rattle.terms.specs.Form.{top32, ChildForm, RecordForm}
use Rattle.terms.proofs.Places.{length_bits, prefix_length}
use Rattle.meaning.specs.Tree.{Tree, none, leaf, inner, grants, hash, VTree, vnone, vleaf, vinner, unversioned, grants_in, top_version, kid, same_grants, node_version, versioned}
use Rattle.meaning.specs.Store.{child_of}
use Rattle.meaning.proofs.Versions.{same_grants_eq, versioned_tree}
use Rattle.meaning.proofs.Shaped.{Shaped}
use Rattle.histories.proofs.Forms.{two_missing}
use Rattle.hash.specs.Hash.{hash_bytes}
use Rattle.hash.proofs.Laws.{hash_whole}
use Rattle.nodehash.specs.Node.{leaf_hash, inner_hash}
use Rattle.slots.specs.declared.Child as declared-child
use Rattle.slots.specs.Answer.{child_says}
use Rattle.steps.specs.Step as step
use Rattle.steps.specs.Given.{Gives}
use Rattle.apply_place.specs.declared.Node as node
use Rattle.apply_place.specs.declared.Node.TheVariants.{Nothing, Leaf, Inner}
use Rattle.apply_place.specs.Placing.{record_says}
use Rattle.apply_outcome.specs.declared.Outcome as declared
use Rattle.apply_outcome.specs.Outcomes.{NodeSays, updated_says}
use Rattle.apply_outcome.proofs.Saying.{updated_form}

-- a version: a number of four bytes, and not 0
abbrev pub Number : ℕ → Type 0
Number v = (1 ≤ v) × (v ≤ top32)

-- each node of a tree has one
abbrev pub Numbered : VTree → Type 0
Numbered vnone = Unit {0}
Numbered (vleaf v g) = Number v
Numbered (vinner v l r) = Number v × Numbered l × Numbered r

-- a node has a version; no node has version 0
top_number : (t : VTree) → Numbered t → (top_version t ≤ top32) × (top_version t ≡ 0 → t ≡ vnone)
top_number vnone n = (omega arith, λ e. refl)
top_number (vleaf v g) n = (n.1, λ e. absurd (omega arith))
top_number (vinner v l r) n = (n.0.1, λ e. absurd (omega arith))

child_form : (c : declared-child.Child) (t : VTree) → Numbered t → child_says c ≡ child_of leaf_hash inner_hash t → ChildForm (child_says c)
unfolding child_says child_of
child_form c t n e =
    let m = top_number t n in
    let v : c.version ≡ top_version t = ap (λ (x : Child). x.version) e in
    record {
      number = omega (arith, m);
      hash32 = hash_whole c.hash;
      missing = λ z. ap (λ (x : Child). x.hash) e ∙ ap (λ u. hash leaf_hash inner_hash (unversioned u)) (m.1 (sym v ∙ z));
    }

child_missing : (c : declared-child.Child) (t : VTree) → Numbered t → child_says c ≡ child_of leaf_hash inner_hash t → (child_says c).version ≡ 0 → t ≡ vnone
unfolding child_of
child_missing c t n e z = (top_number t n).1 (sym (ap (λ (x : Child). x.version) e) ∙ z)

-- the record of a node by value
pub says_form : (n : node.Node) (t : VTree) (p : Place) → NodeSays true n t → Shaped p (unversioned t) → Numbered t → All RecordForm (record_says p n)
unfolding begins
says_form Nothing t p e s m = tt
says_form (Leaf v k x) t p e s m =
    let s' = subst (λ u. Shaped p (unversioned u)) e s in
    let m' = subst Numbered e m in (
      record {
        short = omega (arith, prefix_length p (bits (hash_bytes k)) s'.0, length_bits (hash_bytes k), s'.1.0.0);
        versioned = m';
        number = omega arith;
        body = (hash_whole k, hash_whole x);
        counts = refl;
      },
      tt,
    )
says_form (Inner v l r i j) t p (a, b, e, x, y, z) s m =
    let s' = subst (λ u. Shaped p (unversioned u)) e s in
    let m' = subst Numbered e m in (
      record {
        short = s'.0;
        versioned = m'.0;
        number = omega arith;
        body = (
          child_form l a m'.1 x,
          child_form r b m'.2 y,
          λ i j. two_missing a b (child_missing l a m'.1 x i) (child_missing r b m'.2 y j) s'.1,
        );
        counts = let f = z.few in (omega arith, omega arith);
      },
      tt,
    )

-- a version is the new one or that of the old node, which stands where grants are
node_number : (new : ℕ) (old : VTree) (gs : List Grant) → Number new → Numbered old → 0 < length gs → Number (node_version new old gs)
unfolding node_version
node_number new old gs n m l = go (same_grants (grants_in old) gs) refl
  where
    top : (t : VTree) → Numbered t → grants_in t ≡ gs → Number (top_version t)
    top vnone m e = absurd (omega (arith, ap length e))
    top (vleaf v g) m e = m
    top (vinner v a b) m e = m.0

    go : (b : Bool) → same_grants (grants_in old) gs ≡ b → Number (cond b (top_version old) new)
    go true e = top old m (same_grants_eq (grants_in old) gs e)
    go false e = n

kid_left : (t : VTree) → Numbered t → Numbered (kid left t)
kid_left vnone m = tt
kid_left (vleaf v g) m = tt
kid_left (vinner v l r) m = m.1

kid_right : (t : VTree) → Numbered t → Numbered (kid right t)
kid_right vnone m = tt
kid_right (vleaf v g) m = tt
kid_right (vinner v l r) m = m.2

numbered_versioned : (new : ℕ) (old : VTree) (p : Place) (t : Tree) → Number new → Numbered old → Shaped p t → Numbered (versioned new old t)
numbered_versioned new old p none n m s = tt
numbered_versioned new old p (leaf g) n m s = node_number new old (g ∷ []) n m (omega arith)
numbered_versioned new old p (inner l r) n m s = (
  node_number new old (grants l ++ grants r) n m (omega (arith, s.1)),
  numbered_versioned new (kid left old) (longer left p) l n (kid_left old m) s.2,
  numbered_versioned new (kid right old) (longer right p) r n (kid_right old m) s.3,
)

-- so the node of an outcome that is given is in form
module _ (new : ℕ) (p : Place) (t : VTree) (now : Tree) (o : step.Outcome) (given : Gives leaf_hash inner_hash new p t now o) (n : Number new)
    (m : Numbered t) (s : Shaped p now) where
  pub given_shaped : Shaped p (unversioned o.node)
  given_shaped = rw (given.node_is, versioned_tree new t now) s

  pub given_numbered : Numbered o.node
  given_numbered = rw given.node_is (numbered_versioned new t p now n m s)

  pub given_form : (w : Bool) (r : declared.Outcome) → NodeSays w r.node o.node → w ≡ true → All RecordForm (updated_says p r)
  given_form true r h e = updated_form p r (says_form r.node o.node p h given_shaped given_numbered)
  given_form false r h e = absurd (false≢true e)
