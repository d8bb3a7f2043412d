-- `changes_guess::find_near` meets its contract: a slot that holds the node is the one found, since no other does. Assumes nothing.
use Rattle.place.specs.Place.{place_of}
use Rattle.changes_guess.proofs.Guessing.{guessed}
use Rattle.changes_guess.proofs.find_near.Goals as goal

pub returns-then-holds : goal.returns-then-holds
returns-then-holds c =
    let a = c.args in
    guessed a.store.now a.version (place_of a.place) c.requires.0.1 c.if-holds.true c.holds.ensures

pub returns : goal.returns
returns c = c.find.ensures
