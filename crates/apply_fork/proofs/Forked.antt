-- An inner node above two outcomes is the outcome of the definition. Assumes nothing.
use Prim.Native.Nat.{ℕ, ◌+◌, ◌≤◌}
use native.Mathlib.Omega.{arith}
use mathlib.Core.Path.{◌≡◌, refl, ap, ap₂, sym, ◌∙◌, subst}
use mathlib.Core.Bool.{Bool, true, false}
use mathlib.Core.List.{List, ◌++◌}
use lib.ListN.{length, length-append}
use Rattle.terms.specs.Bits.{Bytes, Place, longer, left, right}
use Rattle.terms.specs.Records.{Record}
use Rattle.terms.specs.Form.{top32}
use Rattle.meaning.specs.Tree.{VTree, vinner, leaves}
use Rattle.nodehash.specs.Node.{leaf_hash, inner_hash}
use Rattle.slots.specs.declared.Child as child
use Rattle.slots.specs.Answer.{child_says}
use Rattle.steps.specs.Step as step
use Rattle.steps.specs.Writing.{mark}
use Rattle.steps.proofs.Writing.{AllNew, AllOlder}
use Rattle.apply_place.specs.Placing.{Changed, when_writes}
use Rattle.apply_place.specs.declared.Node as node
use Rattle.apply_place.proofs.Reaching.{reaches_then, reaches_as}
use Rattle.apply_outcome.specs.declared.Outcome as declared
use Rattle.apply_outcome.specs.Outcomes.{change_says, node_child, node_leaves, Weighs, ChildSays, NodeSays, updated_says, Did}
use Rattle.apply_outcome.proofs.Saying.{says_child, says_leaves, says_updated, says_many, placed_as}
use Rattle.apply_outcome.proofs.Forking.{above_bytes}
use Rattle.apply_fork.specs.Fork.{Forked}

module _ (new : ℕ) (w : Bool) (p : Place) (a b : step.Outcome) (l r o : declared.Outcome) (ending : List step.Node) {from : ℕ} {s s₁ s₂ s₃ s₄ : Bytes}
    (x : Did new w from s s₁ a l) (y : Did new w l.reach s₁ s₂ b r) (m : Changed (when_writes w (mark new ending)) s₂ s₃)
    (f : Forked new w s₃ s₄ p l r o)
    (fa : AllNew new a.fresh) (fb : AllNew new b.fresh) (ob : AllOlder new b.retired) (oe : AllOlder new ending)
    (few : leaves a.node + leaves b.node ≤ top32) where
  abbrev on_left_lem : List Record
  on_left_lem = step.places_at leaf_hash inner_hash a.change (longer left p) a.node

  abbrev on_right_lem : List Record
  on_right_lem = step.places_at leaf_hash inner_hash b.change (longer right p) b.node

  placing_is : w ≡ true → updated_says (longer left p) l ++ updated_says (longer right p) r ≡ on_left_lem ++ on_right_lem
  placing_is e =
      ap₂ ◌++◌
      (says_updated w l a.node e x.node (longer left p) ∙ ap (λ c. step.places_at leaf_hash inner_hash c (longer left p) a.node) x.change)
      (says_updated w r b.node e y.node (longer right p) ∙ ap (λ c. step.places_at leaf_hash inner_hash c (longer right p) b.node) y.change)

  placing_many : length (updated_says (longer left p) l ++ updated_says (longer right p) r) ≡ length (on_left_lem ++ on_right_lem)
  placing_many =
      let i = says_many w l a.node x.node (longer left p) ∙ ap (λ c. length (step.places_at leaf_hash inner_hash c (longer left p) a.node)) x.change in
      let j = says_many w r b.node y.node (longer right p) ∙ ap (λ c. length (step.places_at leaf_hash inner_hash c (longer right p) b.node)) y.change in
      length-append (updated_says (longer left p) l) _ ∙ ap₂ ◌+◌ i j ∙ sym (length-append on_left_lem on_right_lem)

  child_says_lem : (v : Bool) (n : node.Node) (t : VTree) (c : child.Child) → w ≡ v → NodeSays w n t → (w ≡ true → child_says c ≡ node_child n) → ChildSays v c t
  child_says_lem true n t c e h k = k e ∙ says_child w n t e h
  child_says_lem false n t c e h k = tt

  weighs : Weighs (node_leaves l.node) (node_leaves r.node) a.node b.node
  weighs =
      let i = says_leaves w l.node a.node x.node in
      let j = says_leaves w r.node b.node y.node in
      record { left_is = i; right_is = j; few = omega (arith, i, j, few) }

  pub fork_did : Did new w from s s₄ (step.fork leaf_hash inner_hash new p a b ending) o
  fork_did = record {
    change = ap change_says f.change;
    node =
        subst (λ n. NodeSays w n (vinner new a.node b.node)) (sym f.node) (
          a.node,
          b.node,
          refl,
          child_says_lem w l.node a.node f.left_child refl x.node f.left_is,
          child_says_lem w r.node b.node f.right_child refl y.node f.right_is,
          weighs,
        );
    reach =
        let e = length-append (a.fresh ++ b.fresh) (on_left_lem ++ on_right_lem) in
        let g = length-append a.fresh b.fresh in
        reaches_then w (e ∙ ap (◌+ length (on_left_lem ++ on_right_lem)) g) (reaches_then w refl x.reach y.reach)
        (reaches_as w placing_many f.placed.reach);
    bytes =
        above_bytes w new step.updated (vinner new a.node b.node) a b (on_left_lem ++ on_right_lem) ending fa fb ob oe x.bytes y.bytes m
        (placed_as w placing_is f.placed.bytes);
  }
