-- `forged_proof::on_neighbours` meets its contract: each neighbour is read where it lies. Assumes nothing.
use Prim.Native.Nat.{◌<◌, ◌≤◌}
use mathlib.Core.Path.{ap, ap₂, sym, ◌∙◌}
use borrow.Author.Tests.{leb-true, leb-false}
use Rattle.proofrecords.specs.ProofBytes.{flags}
use Rattle.proofrecords.proofs.Forms.{flags_both}
use Rattle.forged_path.specs.Along.{nodes_in}
use Rattle.forged_proof.specs.Search.{on_path, on_two}
use Rattle.forged_proof.proofs.Parts.{one_neighbour, two_neighbours}
use Rattle.forged_proof.proofs.on_neighbours.Goals as goal

pub is_lone-requires : goal.is_lone-requires
is_lone-requires c = c.requires.1

pub lone_part-requires : goal.lone_part-requires
lone_part-requires c =
    let one-flagged : flags c.args.proof.now ≤ 2 = leb-true _ 2 (sym c.is_lone.ensures ∙ c.if-is_lone.true) in
    (c.requires.1, one-flagged)

pub on_path-requires : goal.on_path-requires
on_path-requires c = (c.requires.0, c.lone_part.ensures.1)

pub returns-then-is_lone : goal.returns-then-is_lone
returns-then-is_lone c =
    let one-flagged : flags c.args.proof.now ≤ 2 = leb-true _ 2 (sym c.is_lone.ensures ∙ c.if-is_lone.true) in
    let a = c.args in
    let nodes = nodes_in a.version a.store.now in
    c.on_path.ensures ∙ ap (on_path nodes) c.lone_part.ensures.0 ∙ one_neighbour nodes a.proof.now c.requires.1 one-flagged

pub left_part-requires : goal.left_part-requires
left_part-requires c =
    let two-flagged : 2 < flags c.args.proof.now = leb-false _ 2 (sym c.is_lone.ensures ∙ c.if-is_lone.false) in
    (c.requires.1, two-flagged)

pub right_part-requires : goal.right_part-requires
right_part-requires c =
    let two-flagged : 2 < flags c.args.proof.now = leb-false _ 2 (sym c.is_lone.ensures ∙ c.if-is_lone.false) in
    (c.requires.1, two-flagged)

pub on_two-requires : goal.on_two-requires
on_two-requires c = (c.requires.0, c.left_part.ensures.1, c.right_part.ensures.1)

pub returns : goal.returns
returns c =
    let two-flagged : 2 < flags c.args.proof.now = leb-false _ 2 (sym c.is_lone.ensures ∙ c.if-is_lone.false) in
    let a = c.args in
    let nodes = nodes_in a.version a.store.now in
    c.on_two.ensures
    ∙ ap₂ (on_two nodes) c.left_part.ensures.0 c.right_part.ensures.0
    ∙ two_neighbours nodes a.proof.now (flags_both a.proof.now c.requires.1 two-flagged)
