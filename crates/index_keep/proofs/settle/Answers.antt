-- `index_keep::settle` meets its contract. Assumes nothing.
use Rattle.index_keep.proofs.Keeping.{decided_yes}
use Rattle.index_keep.proofs.settle.Goals as goal

pub returns-then-is_right : goal.returns-then-is_right
returns-then-is_right c = decided_yes c.is_right.result c.if-is_right.true c.is_right.ensures
