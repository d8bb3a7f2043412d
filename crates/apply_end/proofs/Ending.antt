-- Marks of two children, one after the other: the first leaves the second's node. Assumes nothing.
use Prim.Native.Nat.{ℕ}
use native.Mathlib.Omega.{arith}
use mathlib.Core.Path.{◌≡◌, refl, ap, ap₂, sym, ◌∙◌, subst, subst₂}
use mathlib.Core.Logic.{⊎_elim}
use types.Run.{OneOf}
use denote.Enum.Declared.{tag_of}
use mathlib.Core.Bool.{Bool, true, false}
use mathlib.Core.List.{List, [], ◌∷◌, ◌++◌}
use borrow.Author.Tests.{eq-eqb, ne_eqb}
use Rattle.terms.specs.Bits.{Bytes, Place, longer, left, right}
use Rattle.terms.specs.Records.{Slot}
use Rattle.meaning.specs.Tree.{VTree, vnone, vleaf, vinner, top_version}
use Rattle.place.specs.declared.Place as place
use Rattle.place.specs.Place.{place_of, Grown}
use Rattle.layout.specs.Stores.{store_of}
use Rattle.steps.specs.Step as step
use Rattle.steps.specs.Writing.{mark}
use Rattle.steps.proofs.Writing.{mark_append}
use Rattle.apply_place.specs.declared.Node as node
use Rattle.apply_place.specs.Placing.{Changed, when_writes, Single, node_at}
use Rattle.apply_place.proofs.Changing.{changed_as, changed_slots, changed_stored, changed_then}
use Rattle.apply_outcome.specs.declared.Change as change
use Rattle.apply_outcome.specs.contracts.Change as change-type
use Rattle.apply_outcome.specs.declared.Change.TheVariants.{Updated, Deleted, Unchanged}
use Rattle.apply_outcome.proofs.Forms.{Numbered}
use Rattle.apply_place.proofs.Keeping.{single_mark}
use Rattle.apply_guess.specs.Guess.{Once}
use Rattle.apply_end.specs.Ending.{child_nodes, ends_says, remains_of, Ends}

-- what remains, by the cases of both
pub remains_at : {l l' r r' : node.Node} → l ≡ l' → r ≡ r' → remains_of l' r' ≡ remains_of l r
remains_at e f = sym (ap₂ remains_of e f)

-- version 0 has no node
no_node : (v : ℕ) (p : Place) → v ≡ 0 → child_nodes v p ≡ []
unfolding child_nodes
no_node v p e = rw (eq-eqb v 0 e)

one_node : (v : ℕ) (p : Place) → (v ≡ 0 → ⊥) → child_nodes v p ≡ node_at v p ∷ []
unfolding child_nodes
one_node v p e = rw (ne_eqb v 0 e)

module _ (w : Bool) (since v : ℕ) (p : Place) (c : change.Change) {s s' : Bytes} where
  as_ends : {ns : List step.Node} → ns ≡ ends_says c v p → Changed (when_writes w (mark since ns)) s s' → Changed (when_writes w (mark since (ends_says c v p))) s s'
  as_ends e x = subst (λ ns. Changed (when_writes w (mark since ns)) s s') e x

  pub ends_none : v ≡ 0 → Changed (when_writes w (mark since [])) s s' → Changed (when_writes w (mark since (ends_says c v p))) s s'
  ends_none e x = as_ends (go c) x
    where
      go : (d : change.Change) → [] ≡ ends_says d v p
      go Updated = sym (no_node v p e)
      go Deleted = sym (no_node v p e)
      go Unchanged = refl

  pub ends_changed : OneOf (0 ∷ 1 ∷ []) (tag_of change-type.the_type c) → (v ≡ 0 → ⊥) → Changed (when_writes w (mark since (node_at v p ∷ []))) s s' →
      Changed (when_writes w (mark since (ends_says c v p))) s s'
  ends_changed k n x = as_ends (go c k) x
    where
      go : (d : change.Change) → OneOf (0 ∷ 1 ∷ []) (tag_of change-type.the_type d) → node_at v p ∷ [] ≡ ends_says d v p
      go Updated k = sym (one_node v p n)
      go Deleted k = sym (one_node v p n)
      go Unchanged k = absurd (⊎_elim (λ e. omega arith) (λ e. omega arith) k)

  pub ends_unchanged : c ≡ Unchanged → Changed (when_writes w (mark since [])) s s' → Changed (when_writes w (mark since (ends_says c v p))) s s'
  ends_unchanged e x = as_ends (sym (ap (λ d. ends_says d v p) e)) x

-- marks leave each node as often as it was
pub once_marked : (w : Bool) (since v : ℕ) (p : Place) (ns : List step.Node) {s s' : Bytes} → Changed (when_writes w (mark since ns)) s s' →
    Single v p (store_of s).slots → Single v p (store_of s').slots
once_marked true since v p ns {s} x h = rw (changed_slots x) (single_mark since v p ns (store_of s).slots h)
once_marked false since v p ns x h = rw (changed_slots x) h

both_marked : (w : Bool) (since : ℕ) (xs ys : List step.Node) (s : List Slot) →
    when_writes w (mark since ys) (when_writes w (mark since xs) s) ≡ when_writes w (mark since (xs ++ ys)) s
both_marked true since xs ys s = sym (mark_append since xs ys s)
both_marked false since xs ys s = refl

pub marked_both : (w : Bool) (since : ℕ) (xs ys : List step.Node) {s s' s'' : Bytes} → Changed (when_writes w (mark since xs)) s s' →
    Changed (when_writes w (mark since ys)) s' s'' → Changed (when_writes w (mark since (xs ++ ys))) s s''
marked_both w since xs ys x y = changed_as _ (when_writes w (mark since (xs ++ ys))) (both_marked w since xs ys _) (changed_then x y)

-- both children of a place, the left one first
module _ {s : Bytes} {lversion rversion : ℕ} {p lplace rplace : place.Place} (w : Ends s lversion rversion p) (gl : Grown left p lplace) (gr : Grown right p rplace) where
  pub left_once_there : Once s lversion lplace
  left_once_there = record { stored = w.stored; proper = gl.proper; single = rw gl.place w.left_once }

  module _ (b : Bool) (since : ℕ) (lchange : change.Change) {s₁ : Bytes} (x : Changed (when_writes b (mark since (ends_says lchange lversion (place_of lplace)))) s s₁) where
    pub right_once_there : Once s₁ rversion rplace
    right_once_there = record {
      stored = changed_stored x;
      proper = gr.proper;
      single = rw gr.place (once_marked b since rversion (longer right (place_of p)) (ends_says lchange lversion (place_of lplace)) x w.right_once);
    }

    pub both_marked_there : (rchange : change.Change) {s₂ : Bytes} → Changed (when_writes b (mark since (ends_says rchange rversion (place_of rplace)))) s₁ s₂ →
        Changed (when_writes b (mark since (ends_says lchange lversion (longer left (place_of p)) ++ ends_says rchange rversion (longer right (place_of p))))) s s₂
    both_marked_there rchange {s₂} y =
        subst₂ (λ i j. Changed (when_writes b (mark since (ends_says lchange lversion i ++ ends_says rchange rversion j))) s s₂) gl.place gr.place
        (marked_both b since (ends_says lchange lversion (place_of lplace)) (ends_says rchange rversion (place_of rplace)) x y)

-- the node of a child is the top of its tree
pub top_nodes : (t : VTree) (q : Place) → Numbered t → child_nodes (top_version t) q ≡ step.node_at q t
unfolding child_nodes
top_nodes vnone q n = refl
top_nodes (vleaf v g) q n = rw (ne_eqb v 0 (λ z. omega arith))
top_nodes (vinner v a b) q n = rw (ne_eqb v 0 (λ z. omega arith))
