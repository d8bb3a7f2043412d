-- `rescue_look::scanned` meets its contract: no slot passed holds the node, so the first that does is the lowest. Assumes nothing.
use Rattle.place.specs.Place.{place_of}
use Rattle.rescue_look.proofs.Looking.{Passed}
use Rattle.rescue_look.proofs.scanned.Given as goal

abbrev pub invariant-loop-i : goal.invariant-loop-i
invariant-loop-i l = Passed l.source l.version (place_of l.place) l.i-end l.i
