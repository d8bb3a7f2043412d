-- `move_count::leaves_at` meets its contract: what was found, weighed by the table. Assumes nothing.
use mathlib.Core.Path.{subst}
use Rattle.place.specs.Place.{place_of}
use Rattle.place.proofs.Places.{proper_count}
use Rattle.lookup.specs.Lookup.{FoundIn}
use Rattle.move_count.specs.Count.{plain_store}
use Rattle.move_count.proofs.Nodes.{found_has, found_weighs}
use Rattle.move_count.proofs.leaves_at.Goals as goal

pub weight_of-requires : goal.weight_of-requires
weight_of-requires c =
    let a = c.args in
    found_has c.requires.0 a.version (place_of a.place)
    (subst (FoundIn (plain_store a.store.now).slots a.version (place_of a.place)) c.in-Some.is c.child_slot-found.ensures)

pub returns-in-Some : goal.returns-in-Some
returns-in-Some c =
    let a = c.args in
    found_weighs c.requires.0 a.version (place_of a.place) (proper_count a.place c.requires.1) c.requires.2
    (subst (FoundIn (plain_store a.store.now).slots a.version (place_of a.place)) c.in-Some.is c.child_slot-found.ensures) c.weight_of.ensures
