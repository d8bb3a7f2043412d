-- `message_leaf::length_right` meets its contract: no bytes, or a comparison. Assumes nothing.
use Rattle.message_leaf.proofs.Heads.{no_bytes, some_bytes}
use Rattle.message_leaf.proofs.length_right.Goals as goal

pub returns-then-end-from : goal.returns-then-end-from
returns-then-end-from c = let a = c.args in no_bytes a.from a.end a.most c.if-end-from.true

pub returns : goal.returns
returns c = let a = c.args in some_bytes a.from a.end a.most c.if-end-from.false c.requires
