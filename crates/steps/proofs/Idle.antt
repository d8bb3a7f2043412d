-- An insert of the value already there and a delete of an absent key are no change: the grants stay, so the step is unchanged, and a batch
-- of such asks makes nothing new but the root. Assumes nothing.
use Prim.Native.Nat.{ℕ, ◌+◌}
use mathlib.Core.Path.{◌≡◌, refl, ap, sym, ◌∙◌}
use mathlib.Core.Bool.{true}
use mathlib.Core.List.{List, []}
use lib.ListN.{length}
use Rattle.terms.specs.Bits.{Bytes, Place, All, begins}
use Rattle.terms.specs.Records.{Ask, ask_key}
use Rattle.terms.specs.Form.{AskForm}
use Rattle.terms.proofs.Lists.{all_always}
use Rattle.meaning.specs.Tree.{with_batch, VTree, unversioned, grants_in, new_root, next_tree}
use Rattle.meaning.specs.Calls.{ascending}
use Rattle.meaning.proofs.Sides.{tree_by}
use Rattle.meaning.proofs.Shaped.{Shaped, shaped_tree_by, shaped_ascending}
use Rattle.histories.specs.Claims.{NoChange}
use Rattle.histories.proofs.Unchanged.{batch_same}
use Rattle.steps.specs.Step.{unchanged, outcome, step_node, at_root, step_root}
use Rattle.steps.specs.Given.{Older}
use Rattle.steps.proofs.Becoming.{gives_unchanged}
use Rattle.steps.proofs.Steps.{step_gives, shaped_fits}
use Rattle.steps.proofs.Root.{step_makes_next_tree}

module _ (leaf_hash inner_hash : Bytes → Bytes → Bytes) (new : ℕ) where
  -- a run that is no change leaves the node as it is without a run
  pub idle_run_is_unchanged : (n : ℕ) (p : Place) (t : VTree) (asks : List Ask) → length p + n ≡ 256 →
      Shaped p (unversioned t) → Older new p t → All AskForm asks → All (λ a. begins p (ask_key a) ≡ true) asks → ascending asks ≡ true →
      All (NoChange (grants_in t)) asks → step_node leaf_hash inner_hash new n p t asks ≡ outcome unchanged t
  idle_run_is_unchanged n p t asks e s o form at up idle =
      let stay = batch_same asks (grants_in t) (shaped_ascending p (unversioned t) s) idle in
      let same : tree_by n (length p) (with_batch asks (grants_in t)) ≡ unversioned t =
      ap (tree_by n (length p)) stay ∙ sym (shaped_tree_by n p (unversioned t) e s) in
      gives_unchanged leaf_hash inner_hash new p t (step_node leaf_hash inner_hash new n p t asks) o
      (rw same at (step_gives leaf_hash inner_hash new n p t asks e s o (shaped_fits p (unversioned t) asks s form at up)))

  -- no-op inserts and deletes change nothing but the root
  module _ (old : VTree) (batch : List Ask) (shaped : Shaped [] (unversioned old)) (older : Older new [] old) (form : All AskForm batch)
      (up : ascending batch ≡ true) (idle : All (NoChange (grants_in old)) batch) where
    pub idle_batch_renews_only_the_root : step_root leaf_hash inner_hash new old batch ≡ at_root leaf_hash inner_hash new old (outcome unchanged old)
    unfolding step_root begins
    idle_batch_renews_only_the_root =
        ap (at_root leaf_hash inner_hash new old)
        (idle_run_is_unchanged 256 [] old batch refl shaped older form (all_always _ batch (λ a. refl)) up idle)

    pub idle_batch_keeps_the_tree : next_tree new old batch ≡ new_root new old
    idle_batch_keeps_the_tree =
        sym (step_makes_next_tree leaf_hash inner_hash new old batch shaped older form up) ∙ ap (λ u. u.node) idle_batch_renews_only_the_root
