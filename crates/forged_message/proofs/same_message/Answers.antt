-- `forged_message::same_message` meets its contract: the kinds and the numbers of the parts decide. Assumes nothing.
use borrow.Author.Rules.{rules}
use Rattle.forged_message.proofs.Parts.{same_by_parts}
use Rattle.forged_message.proofs.same_message.Goals as goal

pub returns : goal.returns
returns c = same_by_parts c.args.m c.args.n (search rules) (search rules) (search rules) (search rules) c.eq.result c.eq.ensures
