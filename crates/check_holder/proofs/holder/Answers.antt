-- `check_holder::holder` meets its contract: the slot is looked at. Assumes nothing.
use mathlib.Core.Path.{ap}
use mathlib.Core.Bool.{cond}
use Rattle.place.specs.Place.{place_of}
use Rattle.layout.specs.Stores.{slot_no}
use Rattle.check_holder.proofs.Holding.{as_count}
use Rattle.check_holder.proofs.holder.Goals as goal

pub returns-then-holds_node : goal.returns-then-holds_node
returns-then-holds_node c =
    let a = c.args in
    as_count a.version (place_of a.place) (slot_no a.form a.j a.store.now) c.holds_node.ensures (ap (λ t. cond t 1 0) c.if-holds_node.true)

pub returns : goal.returns
returns c =
    let a = c.args in
    as_count a.version (place_of a.place) (slot_no a.form a.j a.store.now) c.holds_node.ensures (ap (λ t. cond t 1 0) c.if-holds_node.false)
