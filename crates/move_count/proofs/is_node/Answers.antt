-- `move_count::is_node` meets its contract: a slot of a sound store that agrees holds the node. Assumes nothing.
use native.Mathlib.Omega.{arith}
use Rattle.terms.specs.Bits.{Byte}
use Rattle.terms.proofs.Lists.{all_of}
use Rattle.move_count.proofs.Nodes.{slot_has, node_in}
use Rattle.move_count.proofs.is_node.Goals as goal

pub returns : goal.returns
returns c =
    let a = c.args in
    node_in c.requires.0 (all_of Byte a.store.now 0 (λ i _. omega (arith, c.shared_slice_known-1.given i)))
    (slot_has a.store.now c.requires.0 c.slot_count-n.ensures c.if-n-c.false) a.version c.requires.1 a.place c.requires.2
    c.agrees.result c.agrees.ensures
