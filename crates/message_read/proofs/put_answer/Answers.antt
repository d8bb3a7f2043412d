-- `message_read::put_answer` meets its contract: the length, then five spots fill the array. Assumes nothing.
use Rattle.message_read.specs.Reads.{spots_of}
use Rattle.message_read.proofs.Spotting.{answer_put}
use native.Mathlib.Omega.{arith}
use borrow.Author.Rules.{rules}
use Rattle.message_read.proofs.put_answer.Goals as goal

pub put_spot-requires : goal.put_spot-requires
put_spot-requires c = (omega arith, c.requires.0.1)

pub put_leaf-requires : goal.put_leaf-requires
put_leaf-requires c = (omega arith, c.requires.1.0)

pub put_leaf-requires-2 : goal.put_leaf-requires-2
put_leaf-requires-2 c = (omega arith, c.requires.1.1)

pub returns : goal.returns
returns c =
    let a = c.args in
    answer_put a.size (spots_of a.key a.stop a.first a.second) a.answer.now c.put_u32.new.s c.put_spot.new.answer c.put_leaf.new.answer c.put_leaf-2.new.answer (search rules)
    c.put_u32.ensures c.put_spot.ensures c.put_leaf.ensures c.put_leaf-2.ensures
