-- `apply_end::mark_children` meets its contract: the first mark leaves the other node. Assumes nothing.
use Rattle.apply_end.proofs.Ending.{left_once_there, right_once_there, both_marked_there}
use Rattle.apply_end.proofs.mark_children.Goals as goal

pub left-lplace-requires : goal.left-lplace-requires
left-lplace-requires c = (c.requires.proper, c.requires.short)

pub right-rplace-requires : goal.right-rplace-requires
right-rplace-requires c = (c.requires.proper, c.requires.short)

pub mark_changed-requires : goal.mark_changed-requires
mark_changed-requires c = left_once_there c.requires c.left-lplace.ensures c.right-rplace.ensures

pub mark_changed-requires-2 : goal.mark_changed-requires-2
mark_changed-requires-2 c = right_once_there c.requires c.left-lplace.ensures c.right-rplace.ensures c.args.writes c.args.since c.args.lchange c.mark_changed.ensures

pub returns : goal.returns
returns c = both_marked_there c.requires c.left-lplace.ensures c.right-rplace.ensures c.args.writes c.args.since c.args.lchange c.mark_changed.ensures c.args.rchange c.mark_changed-2.ensures
