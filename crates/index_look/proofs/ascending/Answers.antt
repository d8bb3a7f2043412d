-- `index_look::ascending` meets its contract: the entries before k ascend. Assumes nothing.
use mathlib.Core.Bool.{not}
use native.Mathlib.Omega.{arith}
use mathlib.Core.Path.{ap}
use Rattle.index_look.proofs.Entries.{decided_so, ascends_next}
use Rattle.index_look.proofs.ascending.Goals as goal

pub loop-k-preserved : goal.loop-k-preserved
loop-k-preserved c = ascends_next c.args.store.now c.args.table.now c.loop-k.k c.loop-k.invariant (decided_so c.follows.result (ap not c.if-not-follows.false) c.follows.ensures)

pub returns : goal.returns
returns c = λ k l. c.loop-k.invariant k (omega (arith, c.loop-k-test.false))
