-- `finding_c::first_byte` meets its contract: byte by kind. Assumes nothing.
use Rattle.finding_put.proofs.first_byte.Goals as goal

pub returns-then-m : goal.returns-then-m
returns-then-m c = rw c.if-m.true

pub returns : goal.returns
returns c = rw c.if-m.false
