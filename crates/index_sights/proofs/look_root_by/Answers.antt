-- `index_sights::look_root_by` meets its contract: the slot that the search ends on, else what the scan finds. Assumes nothing.
use Rattle.meaning.specs.Sight.{root_sight}
use Rattle.indexed.specs.Index.{root_look, root_by}
use Rattle.indexed.specs.Index as index
use Rattle.std.proofs.Common.{rules}
use Rattle.layout.specs.Stores.{store_of}
use Rattle.index_sights.proofs.Fallen.{fallen}
use Rattle.index_sights.proofs.look_root_by.Goals as goal

pub returns : goal.returns
unfolding root_by
returns c =
    let a = c.args in
    let st = store_of a.store.now in
    fallen st.slots (index.search (root_look a.version) a.table.now st.slots) (root_sight st a.version) _ _ c.search_root.ensures (λ i e. search (rules, e, c.map_or_else.ensures)) (λ e. search (rules, e, c.map_or_else.ensures))
