-- `place::Place::left` meets its contract: a bit 0 more leaves the bytes as they are.
-- Assumes nothing.
use mathlib.Core.Path.{refl, sym, ◌∙◌}
use Rattle.place.specs.Place.{place_of}
use Rattle.place.proofs.Places.{grown, pack_left}
use Rattle.place.proofs.Place.left.Goals as goal

pub returns : goal.returns
returns c = let p = c.args.self in let w = c.requires.0 in grown _ p _ w c.requires.1 refl (w.trimmed ∙ sym (pack_left 32 (place_of p)))
