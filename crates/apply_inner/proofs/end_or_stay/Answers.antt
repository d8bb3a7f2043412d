-- `apply_inner::end_or_stay` meets its contract, by the change. Assumes nothing.
use Rattle.apply_inner.proofs.Settling.{stays, ends}
use borrow.Enum.Refused.{opened}
use Rattle.apply_inner.proofs.end_or_stay.Goals as goal

pub returns-in_default : goal.returns-in_default
returns-in_default c = stays c.args.since c.args.writes c.args.store.now c.args.place c.args.lchild c.args.rchild c.args.reach c.args.version c.args.lefts c.args.rights c.args.change (opened c.in_default.in_default-own.keys2)

pub mark_children-requires : goal.mark_children-requires
mark_children-requires c = c.requires

pub returns : goal.returns
returns c = ends c.args.since c.args.writes c.args.store.now c.args.place c.args.lchild c.args.rchild c.args.reach c.args.version c.args.lefts c.args.rights c.args.change c.in-Deleted.is c.mark_children.ensures
