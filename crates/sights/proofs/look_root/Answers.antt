-- `sights::look_root` meets its contract: a match is looked for first, and a spoilt slot where there is none. Assumes nothing.
use Rattle.meaning.specs.Store.{root_of}
use Rattle.meaning.specs.Sight.{agrees_root, root_sight}
use Rattle.layout.specs.Stores.{store_of}
use Rattle.std.proofs.Common.{rules}
use Rattle.sights.proofs.look_root.Goals as goal

pub returns : goal.returns
unfolding root_sight
returns c =
    let a = c.args in
    c.sighted.ensures (root_of (store_of a.store.now) a.version) (agrees_root a.version) c.find_root-found.ensures (λ i r h e. search rules)
