-- `apply_inner::settled` meets its contract, by the outcomes at the children. Assumes nothing.
use Rattle.apply_inner.proofs.Settling.{says_stayed, says_gone, says_renewed}
use borrow.Enum.Refused.{opened}
use Rattle.apply_inner.proofs.settled.Goals as goal

pub returns-then-both_stayed : goal.returns-then-both_stayed
returns-then-both_stayed c = says_stayed c.args.l c.args.r c.both_stayed.ensures c.if-both_stayed.true

pub returns-in_default : goal.returns-in_default
returns-in_default c = says_renewed c.args.l c.args.r c.both_stayed.ensures c.if-both_stayed.false c.remains_of-stands.ensures (opened c.in_default.in_default-own.keys2)

pub returns : goal.returns
returns c = says_gone c.args.l c.args.r c.both_stayed.ensures c.if-both_stayed.false c.remains_of-stands.ensures c.in-Nothing.is
