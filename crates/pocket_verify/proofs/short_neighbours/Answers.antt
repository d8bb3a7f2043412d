-- `pocket_verify::short_neighbours` meets its contract: each neighbour is looked at where it lies. Assumes nothing.
use Prim.Native.Nat.{◌<◌, ◌≤◌}
use mathlib.Core.Path.{◌≡◌, ap, sym, ◌∙◌}
use borrow.Author.Tests.{leb-true, leb-false}
use Rattle.proofrecords.specs.ProofBytes.{presence_in, flags, left_part}
use Rattle.pocket.specs.Pocket.{short_path}
use Rattle.pocket_verify.proofs.Paths.{one_short, left_long, right_decides}
use Rattle.pocket_verify.proofs.short_neighbours.Goals as goal

pub is_lone-requires : goal.is_lone-requires
is_lone-requires c = c.requires

pub lone_part-requires : goal.lone_part-requires
lone_part-requires c =
    let one-flagged : flags c.args.p.now ≤ 2 = leb-true _ 2 (sym c.is_lone.ensures ∙ c.if-is_lone.true) in
    (c.requires, one-flagged)

pub short_path-requires : goal.short_path-requires
short_path-requires c = c.lone_part.ensures.1

pub returns-then-is_lone : goal.returns-then-is_lone
returns-then-is_lone c =
    let one-flagged : flags c.args.p.now ≤ 2 = leb-true _ 2 (sym c.is_lone.ensures ∙ c.if-is_lone.true) in
    c.short_path.ensures ∙ ap (λ y. short_path (presence_in y)) c.lone_part.ensures.0 ∙ one_short c.args.p.now c.requires one-flagged

pub left_part-requires : goal.left_part-requires
left_part-requires c =
    let two-flagged : 2 < flags c.args.p.now = leb-false _ 2 (sym c.is_lone.ensures ∙ c.if-is_lone.false) in
    (c.requires, two-flagged)

pub short_path-requires-2 : goal.short_path-requires-2
short_path-requires-2 c = c.left_part.ensures.1

pub returns-then-not-short_path : goal.returns-then-not-short_path
returns-then-not-short_path c =
    let two-flagged : 2 < flags c.args.p.now = leb-false _ 2 (sym c.is_lone.ensures ∙ c.if-is_lone.false) in
    let left-short : c.short_path-2.result ≡ short_path (presence_in (left_part c.args.p.now)) = c.short_path-2.ensures ∙ ap (λ y. short_path (presence_in y)) c.left_part.ensures.0 in
    left_long c.args.p.now c.requires two-flagged (sym left-short ∙ c.if-not-short_path.true)

pub right_part-requires : goal.right_part-requires
right_part-requires c =
    let two-flagged : 2 < flags c.args.p.now = leb-false _ 2 (sym c.is_lone.ensures ∙ c.if-is_lone.false) in
    (c.requires, two-flagged)

pub short_path-requires-3 : goal.short_path-requires-3
short_path-requires-3 c = c.right_part.ensures.1

pub returns : goal.returns
returns c =
    let two-flagged : 2 < flags c.args.p.now = leb-false _ 2 (sym c.is_lone.ensures ∙ c.if-is_lone.false) in
    let left-short : c.short_path-2.result ≡ short_path (presence_in (left_part c.args.p.now)) = c.short_path-2.ensures ∙ ap (λ y. short_path (presence_in y)) c.left_part.ensures.0 in
    c.short_path-3.ensures ∙ ap (λ y. short_path (presence_in y)) c.right_part.ensures.0
    ∙ right_decides c.args.p.now c.requires two-flagged (sym left-short ∙ c.if-not-short_path.false)
