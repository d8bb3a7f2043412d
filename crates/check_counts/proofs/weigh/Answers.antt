-- `check_counts::weigh` meets its contract: by what the search found. Assumes nothing.
use mathlib.Core.Path.{subst}
use Rattle.place.specs.Place.{place_of}
use Rattle.layout.specs.Stores.{store_in}
use Rattle.lookup.specs.Lookup.{FoundIn}
use Rattle.check_counts.proofs.Weights.{found_has, found_weighs, nothing_weighs}
use Rattle.check_counts.proofs.weigh.Goals as goal

pub weight_at-n-requires : goal.weight_at-n-requires
weight_at-n-requires c =
    let a = c.args in
    found_has a.form a.store.now a.version (place_of a.place) _ c.requires.0 (subst (FoundIn (store_in a.form a.store.now).slots a.version (place_of a.place)) c.in-Some.is c.find.ensures)

pub returns-in-Some : goal.returns-in-Some
returns-in-Some c =
    let a = c.args in
    found_weighs a.form a.store.now a.version (place_of a.place) _ (subst (FoundIn (store_in a.form a.store.now).slots a.version (place_of a.place)) c.in-Some.is c.find.ensures) c.weight_at-n.ensures.0

pub returns-in-None : goal.returns-in-None
returns-in-None c =
    let a = c.args in
    nothing_weighs a.form a.store.now a.version (place_of a.place) (subst (FoundIn (store_in a.form a.store.now).slots a.version (place_of a.place)) c.in-None.is c.find.ensures)
