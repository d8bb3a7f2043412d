-- `verify_cut::gather` meets its contract. One record more is cut off with each turn, and its paths are planned. Assumes nothing.
use Rattle.verify_cut.specs.Row.{Plan}
use Rattle.verify_cut.proofs.gather.Given as goal

abbrev pub invariant-loop-i : goal.invariant-loop-i
invariant-loop-i l = Plan l.p l.n l.at l.index l.i l.m l.a
