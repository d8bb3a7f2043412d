-- `place::Place::top` meets its contract: no bit, and 32 zero bytes.
-- Assumes nothing.
use mathlib.Core.Path.{refl}
use native.Mathlib.Omega.{arith}
use mathlib.Core.List.{[]}
use Rattle.terms.specs.Bits.{pack, packed}
use Rattle.place.proofs.Places.{stands}
use Rattle.place.proofs.Place.top.Goals as goal

pub returns : goal.returns
unfolding pack packed
returns c = stands [] _ (omega arith) refl refl
