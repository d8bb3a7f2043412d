-- `prove_plan::at_leaf` meets its contract: a presence proof if the key is the leaf's. Assumes nothing.
use Rattle.prove_trails.proofs.Searches.{leaf_fits_lem}
use Rattle.prove_plan.proofs.Ending.{another_key, its_key}
use Rattle.prove_plan.proofs.at_leaf.Goals as goal

pub slot_of-requires : goal.slot_of-requires
slot_of-requires c = leaf_fits_lem c.args.store.now c.args.walked.trail c.args.i c.requires.0.trail c.requires.1

pub returns-then-not-same : goal.returns-then-not-same
returns-then-not-same c =
    let a = c.args in
    another_key a.store.now a.index.now a.key.now a.walked a.i c.slot_of.ensures.0 c.key_of.ensures.0 c.same.ensures
    c.if-not-same.true c.absent.ensures

pub returns : goal.returns
returns c =
    let a = c.args in
    its_key a.store.now a.index.now a.key.now a.walked a.i c.slot_of.ensures.0 c.key_of.ensures.0 c.same.ensures
    c.if-not-same.false c.requires.0.trail c.requires.1 c.at_end.ensures
