-- `check_child::is_node` meets its contract: a slot that agrees and isn't spoilt holds the node. Assumes nothing.
use native.Mathlib.Omega.{arith}
use Rattle.terms.specs.Bits.{Byte}
use Rattle.terms.proofs.Lists.{all_of}
use Rattle.check_child.proofs.Children.{node_is}
use Rattle.check_child.proofs.is_node.Goals as goal

pub agrees-requires : goal.agrees-requires
agrees-requires c = (c.requires.0, c.requires.3)

pub returns : goal.returns
returns c =
    node_is c.requires.0 (all_of Byte c.args.store.now 0 (λ i _. omega (arith, c.shared_slice_known-1.given i)))
    c.requires.1 c.args.version c.requires.2 c.args.place c.requires.3 c.agrees.result c.agrees.ensures
