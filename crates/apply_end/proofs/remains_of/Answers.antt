-- `apply_end::remains_of` meets its contract, by the cases of both. Assumes nothing.
use Rattle.apply_end.proofs.Ending.{remains_at}
use Rattle.apply_end.proofs.remains_of.Goals as goal

pub returns-in-Leaf-r : goal.returns-in-Leaf-r
returns-in-Leaf-r c = remains_at c.in-Nothing.is c.in-Leaf-r.is

pub returns-in-Nothing-r-2 : goal.returns-in-Nothing-r-2
returns-in-Nothing-r-2 c = remains_at c.in-Leaf.is c.in-Nothing-r-2.is

pub returns-in-Leaf-r-2 : goal.returns-in-Leaf-r-2
returns-in-Leaf-r-2 c = remains_at c.in-Leaf.is c.in-Leaf-r-2.is

pub returns-in-Inner-r-2 : goal.returns-in-Inner-r-2
returns-in-Inner-r-2 c = remains_at c.in-Leaf.is c.in-Inner-r-2.is
