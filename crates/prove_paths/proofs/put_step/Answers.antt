-- `prove_paths::put_step` meets its contract: a side and a hash fill the part. Assumes nothing.
use Rattle.prove_paths.proofs.Writing.{step_put}
use Rattle.prove_paths.proofs.put_step.Goals as goal

pub returns : goal.returns
returns c =
    let a = c.args in
    step_put a.part.now a.store.now a.i a.side c.requires.0 c.digit.ensures c.slot_of.ensures.0 c.child_hash.ensures.0 c.copy.ensures
