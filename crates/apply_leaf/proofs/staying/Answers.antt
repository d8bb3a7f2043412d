-- `apply_leaf::staying` meets its contract, by what is asked. Assumes nothing.
use Rattle.apply_leaf.proofs.Leaf.{stays_none, stays_not}
use borrow.Enum.Refused.{opened}
use Rattle.apply_leaf.proofs.staying.Goals as goal

pub returns-in_default : goal.returns-in_default
returns-in_default c = stays_not c.args.own c.args.key c.args.value (opened c.in_default.in_default-own.keys2)

pub returns : goal.returns
returns c = stays_none c.args.own c.args.key c.args.value c.in-Nothing.is
