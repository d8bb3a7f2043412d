-- `lookup::find` meets its contract: each slot passed does not match, so the first that does is the one found. Assumes nothing.
use Prim.Native.Nat.{◌-◌}
use Rattle.lookup.proofs.Searching.{Slots, Agrees}
use Rattle.lookup.proofs.find.Given as goal

abbrev pub invariant-loop-k : goal.invariant-loop-k
invariant-loop-k l = Agrees l.form l.store l.version l.bits l.count l.n l.i l.at l.k

abbrev pub decreases-loop-k : goal.decreases-loop-k
decreases-loop-k l = 32 - l.k

abbrev pub invariant-slots : goal.invariant-slots
invariant-slots l = Slots l.form l.store l.version l.bits l.count l.n l.i

abbrev pub decreases-slots : goal.decreases-slots
decreases-slots l = l.n - l.i
