-- `forged_truth::neighbours_true` meets its contract: each neighbour is looked at where it lies. Assumes nothing.
use Prim.Native.Nat.{◌<◌, ◌≤◌}
use mathlib.Core.Path.{◌≡◌, ap, sym, ◌∙◌}
use borrow.Author.Tests.{leb-true, leb-false}
use Rattle.proofrecords.specs.ProofBytes.{presence_in, flags, left_part}
use Rattle.forged_truth.specs.Truth.{grants_at, leaf_true}
use Rattle.forged_truth.proofs.Parts.{one_true, left_false, right_decides}
use Rattle.forged_truth.proofs.neighbours_true.Goals as goal

pub is_lone-requires : goal.is_lone-requires
is_lone-requires c = c.requires.1

pub lone_part-requires : goal.lone_part-requires
lone_part-requires c =
    let one-flagged : flags c.args.p.now ≤ 2 = leb-true _ 2 (sym c.is_lone.ensures ∙ c.if-is_lone.true) in
    (c.requires.1, one-flagged)

pub leaf_true-requires : goal.leaf_true-requires
leaf_true-requires c = (c.requires.0, c.lone_part.ensures.1)

pub returns-then-is_lone : goal.returns-then-is_lone
returns-then-is_lone c =
    let one-flagged : flags c.args.p.now ≤ 2 = leb-true _ 2 (sym c.is_lone.ensures ∙ c.if-is_lone.true) in
    let gs = grants_at c.args.store.now c.args.version in
    c.leaf_true.ensures ∙ ap (λ y. leaf_true gs (presence_in y)) c.lone_part.ensures.0 ∙ one_true gs c.args.p.now c.requires.1 one-flagged

pub left_part-requires : goal.left_part-requires
left_part-requires c =
    let two-flagged : 2 < flags c.args.p.now = leb-false _ 2 (sym c.is_lone.ensures ∙ c.if-is_lone.false) in
    (c.requires.1, two-flagged)

pub leaf_true-requires-2 : goal.leaf_true-requires-2
leaf_true-requires-2 c = (c.requires.0, c.left_part.ensures.1)

pub returns-then-not-leaf_true : goal.returns-then-not-leaf_true
returns-then-not-leaf_true c =
    let two-flagged : 2 < flags c.args.p.now = leb-false _ 2 (sym c.is_lone.ensures ∙ c.if-is_lone.false) in
    let left-true : c.leaf_true-2.result ≡ leaf_true (grants_at c.args.store.now c.args.version) (presence_in (left_part c.args.p.now)) = c.leaf_true-2.ensures ∙ ap (λ y. leaf_true (grants_at c.args.store.now c.args.version) (presence_in y)) c.left_part.ensures.0 in
    left_false (grants_at c.args.store.now c.args.version) c.args.p.now c.requires.1 two-flagged
    (sym left-true ∙ c.if-not-leaf_true.true)

pub right_part-requires : goal.right_part-requires
right_part-requires c =
    let two-flagged : 2 < flags c.args.p.now = leb-false _ 2 (sym c.is_lone.ensures ∙ c.if-is_lone.false) in
    (c.requires.1, two-flagged)

pub leaf_true-requires-3 : goal.leaf_true-requires-3
leaf_true-requires-3 c = (c.requires.0, c.right_part.ensures.1)

pub returns : goal.returns
returns c =
    let two-flagged : 2 < flags c.args.p.now = leb-false _ 2 (sym c.is_lone.ensures ∙ c.if-is_lone.false) in
    let left-true : c.leaf_true-2.result ≡ leaf_true (grants_at c.args.store.now c.args.version) (presence_in (left_part c.args.p.now)) = c.leaf_true-2.ensures ∙ ap (λ y. leaf_true (grants_at c.args.store.now c.args.version) (presence_in y)) c.left_part.ensures.0 in
    let gs = grants_at c.args.store.now c.args.version in
    c.leaf_true-3.ensures ∙ ap (λ y. leaf_true gs (presence_in y)) c.right_part.ensures.0
    ∙ right_decides gs c.args.p.now c.requires.1 two-flagged (sym left-true ∙ c.if-not-leaf_true.false)
