-- `batches::put_words` is safe and ends: no more than 1,024 records are counted. Assumes nothing.
use Prim.Native.Nat.{◌≤◌}
use Rattle.script.proofs.batches.put_words.Given as goal

abbrev pub invariant-loop-w : goal.invariant-loop-w
invariant-loop-w l = l.n ≤ 1024
