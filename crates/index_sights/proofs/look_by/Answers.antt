-- `index_sights::look_by` meets its contract: the slot that the search ends on, else what the scan finds. Assumes nothing.
use Rattle.meaning.specs.Sight.{node_sight}
use Rattle.indexed.specs.Index.{node_look, node_by}
use Rattle.place.specs.Place.{place_of}
use Rattle.std.proofs.Common.{rules}
use Rattle.indexed.specs.Index as index
use Rattle.layout.specs.Stores.{store_of}
use Rattle.index_sights.proofs.Fallen.{fallen}
use Rattle.index_sights.proofs.look_by.Goals as goal

pub returns : goal.returns
unfolding node_by
returns c =
    let a = c.args in
    let st = store_of a.store.now in
    fallen st.slots (index.search (node_look a.version (place_of a.place)) a.table.now st.slots) (node_sight st a.version (place_of a.place)) _ _ c.search_node.ensures (λ i e. search (rules, e, c.map_or_else.ensures)) (λ e. search (rules, e, c.map_or_else.ensures))
