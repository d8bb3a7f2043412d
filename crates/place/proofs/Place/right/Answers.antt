-- `place::Place::right` meets its contract: a bit 1 more sets that bit.
-- Assumes nothing.
use mathlib.Core.Path.{refl}
use Rattle.place.proofs.Places.{grown, with_bit_lem}
use Rattle.place.proofs.Place.right.Goals as goal

pub returns : goal.returns
returns c =
    let p = c.args.self in
    let w = c.requires.0 in
    let h = c.requires.1 in
    grown _ p _ w h refl (with_bit_lem p w h)
