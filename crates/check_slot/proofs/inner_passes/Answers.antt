-- `check_slot::inner_passes` meets its contract: alone, its children, above. Assumes nothing.
use mathlib.Core.Path.{refl, sym, ◌∙◌}
use Rattle.terms.specs.Records.{inner_body, tally}
use Rattle.slots.specs.Answer.{child_says}
use Rattle.check_slot.proofs.Records.{fails_alone, fails_body, fails_counts, passes_counts, inner_body_lem, inner_counted, inner_hashed}
use Rattle.check_slot.proofs.inner_passes.Goals as goal

pub returns-then-not-alone_right : goal.returns-then-not-alone_right
returns-then-not-alone_right c =
    fails_alone _ c.args.store.now c.args.head (inner_body (child_says c.args.left) (child_says c.args.right)) (tally c.args.lefts c.args.rights)
    c.alone_right.ensures c.if-not-alone_right.true

pub returns-then-not-children_found : goal.returns-then-not-children_found
returns-then-not-children_found c =
    fails_body _ c.args.store.now c.args.head (inner_body (child_says c.args.left) (child_says c.args.right)) (tally c.args.lefts c.args.rights)
    c.alone_right.ensures c.if-not-alone_right.false
    (inner_body_lem c.args.left c.args.right _ c.args.store.now c.args.head.place ∙ sym
    c.children_found.ensures ∙ c.if-not-children_found.true)

pub returns-then-not-counts_right : goal.returns-then-not-counts_right
returns-then-not-counts_right c =
    fails_counts _ c.args.store.now c.args.head (inner_body (child_says c.args.left) (child_says c.args.right)) (tally c.args.lefts c.args.rights)
    c.alone_right.ensures c.if-not-alone_right.false
    (inner_body_lem c.args.left c.args.right _ c.args.store.now c.args.head.place ∙ sym
    c.children_found.ensures ∙ c.if-not-children_found.false)
    (inner_counted c.args.left c.args.right _ c.args.store.now c.args.head _ ∙ sym c.counts_right.ensures ∙ c.if-not-counts_right.true)

pub returns : goal.returns
returns c =
    passes_counts _ c.args.store.now c.args.head (inner_body (child_says c.args.left) (child_says c.args.right)) (tally c.args.lefts c.args.rights)
    c.alone_right.ensures c.if-not-alone_right.false
    (inner_body_lem c.args.left c.args.right _ c.args.store.now c.args.head.place ∙ sym
    c.children_found.ensures ∙ c.if-not-children_found.false)
    (inner_counted c.args.left c.args.right _ c.args.store.now c.args.head _ ∙ sym c.counts_right.ensures ∙ c.if-not-counts_right.false)
    (c.above_right.ensures (inner_body (child_says c.args.left) (child_says c.args.right)) (tally c.args.lefts c.args.rights) refl
    (inner_hashed c.args.left c.args.right c.inner_hash.result c.inner_hash.ensures))
