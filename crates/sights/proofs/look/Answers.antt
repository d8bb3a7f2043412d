-- `sights::look` meets its contract: a match is looked for first, and a spoilt slot where there is none. Assumes nothing.
use Rattle.place.specs.Place.{place_of}
use Rattle.meaning.specs.Store.{find}
use Rattle.meaning.specs.Sight.{agrees, node_sight}
use Rattle.layout.specs.Stores.{store_of}
use Rattle.std.proofs.Common.{rules}
use Rattle.sights.proofs.look.Goals as goal

pub returns : goal.returns
unfolding node_sight
returns c =
    let a = c.args in
    let p = place_of a.place in
    c.sighted.ensures (find a.version p (store_of a.store.now).slots) (agrees a.version p) c.find-found.ensures (λ i r h e. search rules)
