-- `finding_c::put_named` meets its contract: case by case. Assumes nothing.
use Rattle.finding_c.proofs.Exported.{nothing_put, two_named, zero_named}
use Rattle.finding_rules.specs.Call.{finding_bytes}
use Rattle.finding_c.proofs.put_named.Goals as goal

pub returns-in-Nothing : goal.returns-in-Nothing
returns-in-Nothing c = nothing_put c.args.named c.args.answer.now c.in-Nothing.is c.requires c.clear.ensures

pub returns-in-Two : goal.returns-in-Two
returns-in-Two c = two_named c.args.named c.in-Two.is c.put_two.ensures

pub returns-in-Zero : goal.returns-in-Zero
unfolding finding_bytes
returns-in-Zero c = zero_named c.args.named c.in-Zero.is c.put_one.ensures
