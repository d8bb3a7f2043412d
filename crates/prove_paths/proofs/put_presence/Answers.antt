-- `prove_paths::put_presence` meets its contract: head, key, value and steps fill the part. Assumes nothing.
use native.Mathlib.Omega.{arith}
use lib.ListN.{length-take, length-drop}
use Rattle.prove_paths.proofs.Records.{presence_put}
use Rattle.prove_paths.proofs.put_presence.Goals as goal

pub copy-requires : goal.copy-requires
copy-requires c = simp (length-take, length-drop) (omega (arith, c.grant_of.ensures.1))

pub returns : goal.returns
returns c =
    let a = c.args in
    presence_put a.store.now a.path a.part.now c.requires.0 c.requires.1 c.put_u32.ensures c.put_u16.ensures c.put_u16-2.ensures
    c.slot_of.ensures.0 c.grant_of.ensures.0 c.copy.ensures c.put_steps.ensures
