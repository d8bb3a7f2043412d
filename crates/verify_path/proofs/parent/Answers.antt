-- `verify_path::parent` meets its contract: by the side, the sibling's hash is the left or the right one.
-- Assumes nothing.
use Rattle.verify_path.proofs.parent.Goals as goal

pub returns-then-is_right : goal.returns-then-is_right
returns-then-is_right c = rw (← c.is_right.ensures, c.if-is_right.true, ← c.sibling-s.ensures) c.inner_hash.ensures

pub returns : goal.returns
returns c = rw (← c.is_right.ensures, c.if-is_right.false, ← c.sibling-s.ensures) c.inner_hash-2.ensures
