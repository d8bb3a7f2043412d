-- `message_record::put_step` meets its contract: the side's byte, then the sibling. Assumes nothing.
use mathlib.Core.Path.{ap, ◌∙◌}
use mathlib.Core.List.{◌∷◌}
use lib.ListN.{length, length-take, length-drop, length-set}
use Rattle.terms.specs.Bits.{digit}
use Rattle.fields.proofs.Written.{length_written}
use Rattle.message_record.proofs.Stepping.{sided, length_sibling, step_put}
use native.Mathlib.Omega.{arith}
use Rattle.message_record.proofs.put_step.Goals as goal

pub overflow_sub-from : goal.overflow_sub-from
overflow_sub-from c = omega (arith, (sided c.args.op.now c.requires.0.0 c.requires.0.1).long.0)

pub copy-requires : goal.copy-requires
copy-requires c =
    let w = (sided c.args.op.now c.requires.0.0 c.requires.0.1).long in
    simp (length-take, length-drop, length-set) (omega (arith, w.0, c.requires.1))

pub shape_of-room : goal.shape_of-room
shape_of-room c =
    let a = c.args in
    let s = c.requires.0.0 in
    let k = c.requires.0.1 in
    ap length (step_put a.op.now a.room.now c.copy.new.s a.at c.side.result c.requires.1 c.side.ensures c.copy.ensures s k)
    ∙ length_written a.at (digit s.side ∷ s.sibling) a.room.now (omega (arith, length_sibling (sided a.op.now s k), c.requires.1))

pub returns : goal.returns
returns c =
    let a = c.args in
    λ s k. step_put a.op.now a.room.now c.copy.new.s a.at c.side.result c.requires.1 c.side.ensures c.copy.ensures s k
