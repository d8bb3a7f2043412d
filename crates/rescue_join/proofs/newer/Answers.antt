-- `rescue_join::newer` meets its contract. Assumes nothing.
use borrow.Author.Tests.{lt-ltb, le-ltb}
use Rattle.rescue_rules.specs.Joining.{newer}
use Rattle.rescue_join.proofs.newer.Goals as goal

pub returns-then-a-child : goal.returns-then-a-child
unfolding newer
returns-then-a-child c = rw (lt-ltb c.args.a c.args.child c.if-a-child.true)

pub returns : goal.returns
unfolding newer
returns c = rw (le-ltb c.args.a c.args.child c.if-a-child.false)
