-- `verify_neighbours::beyond` meets its contract: on each side it asks `before`, with the keys in that side's order.
-- Assumes nothing.
use Rattle.verify_neighbours.proofs.beyond.Goals as goal

pub returns-then-side : goal.returns-then-side
returns-then-side c = rw c.if-side.true c.before-then-side.ensures

pub returns : goal.returns
returns c = rw c.if-side.false c.before-2.ensures
