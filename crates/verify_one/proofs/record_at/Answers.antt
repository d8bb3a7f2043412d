-- `verify_one::record_at` meets its contract. The part to the end is all that follows. Assumes nothing.
use Rattle.verify_one.proofs.Laws.{rest_part}
use Rattle.verify_one.proofs.record_at.Goals as goal

pub returns : goal.returns
returns c = rest_part c.args.a c.args.p.now
