-- `apply_inner::renew` meets its contract, by what remains. Assumes nothing.
use Rattle.apply_inner.proofs.Settling.{marked_new, forks_after, is_lone, is_more_lem}
use borrow.Enum.Refused.{opened}
use Rattle.apply_inner.proofs.renew.Goals as goal

pub mark_children-requires : goal.mark_children-requires
mark_children-requires c = c.requires.ends

pub fork-requires : goal.fork-requires
fork-requires c = forks_after c.args.writes c.args.since c.requires.forks c.mark_children.ensures

pub returns-in_default : goal.returns-in_default
returns-in_default c = is_more_lem c.args.new c.args.writes c.args.store.now c.args.place c.args.lchild c.args.rchild c.args.l c.args.r c.remains_of-stands.ensures (opened c.in_default.in_default-own.keys2) (marked_new c.args.writes _ c.requires.marks c.mark_children.ensures) c.fork.ensures

pub mark_children-requires-2 : goal.mark_children-requires-2
mark_children-requires-2 c = c.requires.ends

pub returns : goal.returns
returns c = is_lone c.args.new c.args.writes c.args.store.now c.args.place c.args.lchild c.args.rchild c.args.l c.args.r c.remains_of-stands.ensures c.in-Leaf.is (marked_new c.args.writes _ c.requires.marks c.mark_children-2.ensures)
