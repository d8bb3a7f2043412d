-- `apply_guess::find_near` meets its contract: a slot that holds the node is the one found, since there is no other. Assumes nothing.
use Rattle.apply_place.proofs.Changing.{stored_size}
use Rattle.apply_guess.proofs.Guessing.{no_version, guessed}
use Rattle.apply_guess.proofs.find_near.Goals as goal

pub returns-then-version-eq0 : goal.returns-then-version-eq0
returns-then-version-eq0 c = no_version c.requires c.if-version-eq0.true

pub holds-requires : goal.holds-requires
holds-requires c = (stored_size c.requires.stored, c.requires.proper)

pub returns-then-holds : goal.returns-then-holds
returns-then-holds c = guessed c.requires c.if-holds.true c.holds.ensures

pub find-requires : goal.find-requires
find-requires c = (stored_size c.requires.stored, c.requires.proper)
