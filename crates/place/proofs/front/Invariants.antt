-- `place::front` meets its contract: at bit i the place is that of the first i bits. Assumes nothing.
use lib.ListN.{take}
use Rattle.terms.specs.Bits.{bits}
use Rattle.place.specs.Place.{Stands}
use Rattle.place.proofs.front.Given as goal

abbrev pub invariant-loop-i : goal.invariant-loop-i
invariant-loop-i l = Stands (take l.i (bits l.key)) l.i l.place
