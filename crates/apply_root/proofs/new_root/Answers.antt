-- `apply_root::new_root` meets its contract, by the cases of the node. Assumes nothing.
use mathlib.Core.Path.{ap, sym}
use Rattle.apply_root.specs.Root.{new_root_says}
use Rattle.apply_root.proofs.new_root.Goals as goal

pub returns-in-Leaf : goal.returns-in-Leaf
returns-in-Leaf c = let a = c.args in sym (ap (new_root_says a.new) c.in-Leaf.is)

pub returns-in-Inner : goal.returns-in-Inner
returns-in-Inner c = let a = c.args in sym (ap (new_root_says a.new) c.in-Inner.is)
