-- `check_holder::holders` meets its contract: the slots before j are counted. Assumes nothing.
use Rattle.place.specs.Place.{place_of}
use Rattle.check_holder.proofs.Holding.{Counted}
use Rattle.check_holder.proofs.holders.Given as goal

abbrev pub invariant-loop-j : goal.invariant-loop-j
invariant-loop-j l = Counted l.form l.store l.version (place_of l.place) l.n l.count l.j
