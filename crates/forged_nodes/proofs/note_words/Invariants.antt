-- `forged_nodes::note_words` meets its contract: slot by slot. Assumes nothing.
use Rattle.forged_nodes.specs.Nodes.{NotedTo}
use Rattle.forged_nodes.proofs.note_words.Given as goal

abbrev pub invariant-loop-i : goal.invariant-loop-i
invariant-loop-i l = NotedTo l.version l.store l.words l.i
