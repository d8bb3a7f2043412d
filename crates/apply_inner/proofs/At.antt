-- At the inner node in a slot: its record says what its children were, each of them older, so each is there once. Assumes nothing.
use Prim.Native.Nat.{ℕ, ◌<◌}
use native.Mathlib.Omega.{arith}
use mathlib.Core.Path.{◌≡◌, refl, ap, sym, ◌∙◌, subst}
use mathlib.Core.Logic.{inl, inr, ⊎_elim}
use mathlib.Core.Bool.{Bool, true, false≢true}
use mathlib.Core.List.{[], ◌∷◌}
use types.Run.{OneOf}
use denote.Enum.Declared.{tag_of}
use Rattle.terms.specs.Bits.{Bytes, longer, left, right}
use Rattle.meaning.specs.Tree.{VTree, vinner, top_version}
use Rattle.place.specs.declared.Place as place
use Rattle.place.specs.Place.{place_of}
use Rattle.slots.specs.declared.Child as child
use Rattle.steps.specs.Given.{Older}
use Rattle.apply_place.specs.declared.Node as node
use Rattle.apply_place.specs.declared.Node.TheVariants as N
use Rattle.apply_place.specs.contracts.Node as node-type
use Rattle.apply_outcome.specs.declared.Outcome as declared
use Rattle.apply_outcome.specs.Outcomes.{NodeSays}
use Rattle.apply_end.specs.Ending.{Ends}
use Rattle.apply_read.specs.Held.{Used, version_of, version_in, NodeHeld}
use Rattle.apply_read.specs.Standing.{tree_here, is_inner}
use Rattle.apply_read.proofs.Standing.{slot_used, node_there}
use Rattle.apply_read.proofs.Children.{child_top}
use Rattle.apply_inner.specs.Settling.{Renews, Settles}
use Rattle.apply_inner.proofs.Standing.{top_older}

module _ {new since : ℕ} {w : Bool} {s : Bytes} {p : place.Place} {slot : ℕ} {l r : declared.Outcome} (h : Settles new since w s p slot l r) where
  abbrev tree : VTree
  tree = tree_here s p (version_in s slot)

  pub its_slot : Used s slot
  its_slot = slot_used h.standing h.there refl

  its_node : (n : node.Node) → NodeHeld s slot n → NodeSays true n tree
  its_node n k = node_there h.standing h.there refl n k

  -- no leaf is in the slot
  pub no_leaf_lem : {A : Type 0} (n : node.Node) → OneOf (0 ∷ 1 ∷ []) (tag_of node-type.the_type n) → NodeHeld s slot n → A
  no_leaf_lem n k i = go n k (its_node n i)
    where
      go : {A : Type 0} (m : node.Node) → OneOf (0 ∷ 1 ∷ []) (tag_of node-type.the_type m) → NodeSays true m tree → A
      go N.Nothing k e = absurd (false≢true (sym (ap is_inner e) ∙ h.inner))
      go (N.Leaf v x y) k e = absurd (false≢true (sym (ap is_inner e) ∙ h.inner))
      go (N.Inner v a b i j) k e = absurd (⊎_elim (λ e. omega arith) (λ e. omega arith) k)

  -- the inner node there, with its own version
  module _ {n : node.Node} (held : NodeHeld s slot n) {v : ℕ} {lchild rchild : child.Child} {i j : ℕ} (e : n ≡ N.Inner v lchild rchild i j) where
    pub its_inner : NodeSays true (N.Inner (version_in s slot) lchild rchild i j) tree
    its_inner =
        let (a, b, t, x, y, z) = subst (λ m. NodeSays true m tree) e (its_node n held) in
        (a, b, t ∙ ap (λ u. vinner u a b) (subst (λ z. top_version z ≡ version_in s slot) t h.standing.top), x, y, z)

    pub its_version : v ≡ version_in s slot
    its_version = (subst (λ m. NodeHeld s slot m) e held its_slot.held its_slot.slot).0 ∙ sym (ap version_of its_slot.slot)

    older_inner : Older new (place_of p) (vinner (version_in s slot) its_inner.0 its_inner.1)
    older_inner = subst (Older new (place_of p)) its_inner.2 h.older

    left_older : lchild.version < new
    left_older =
        omega (arith, child_top lchild its_inner.0 its_inner.3, top_older new (longer left (place_of p)) its_inner.0 h.number (λ u q k. older_inner u q (inr (inl k))))

    right_older : rchild.version < new
    right_older =
        omega (arith, child_top rchild its_inner.1 its_inner.4, top_older new (longer right (place_of p)) its_inner.1 h.number (λ u q k. older_inner u q (inr (inr k))))

    pub may_end : Ends s lchild.version rchild.version p
    may_end = record {
      stored = h.standing.stored;
      proper = h.standing.proper;
      short = h.short;
      left_once = h.single lchild.version (longer left (place_of p)) left_older;
      right_once = h.single rchild.version (longer right (place_of p)) right_older;
    }

    pub may_renew : Renews new since w s p lchild rchild l r
    may_renew = record {
      marks = h.marks;
      ends = may_end;
      forks = record {
        stored = h.standing.stored;
        starts = h.starts;
        proper = h.standing.proper;
        short = h.short;
        left_form = h.left_form;
        right_form = h.right_form;
        left_kept = (h.kept lchild rchild i j its_inner).0;
        right_kept = (h.kept lchild rchild i j its_inner).1;
        left_few = h.left_few;
        right_few = h.right_few;
      };
    }
