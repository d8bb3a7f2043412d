-- `forged_nodes::zero_node` meets its contract: no slot passed is such a node. Assumes nothing.
use Rattle.terms.specs.declared.Form.TheVariants.{Counted as counted}
use Rattle.store.proofs.Scans.{Scan}
use Rattle.forged_nodes.proofs.Scanning.{ZeroAhead}
use Rattle.forged_nodes.proofs.zero_node.Given as goal

abbrev pub invariant-loop-i : goal.invariant-loop-i
invariant-loop-i l = Scan counted l.store (ZeroAhead l.store l.version) l.n l.i
