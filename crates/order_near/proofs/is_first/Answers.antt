-- `order_near::is_first` meets its contract: the entry isn't before the node, the one before it is. Assumes nothing.
use native.Mathlib.Omega.{arith}
use mathlib.Core.Path.{sym, ◌∙◌}
use lib.ListN.{length}
use Rattle.place.specs.Place.{place_of}
use Rattle.layout.specs.Stores.{store_of}
use Rattle.ordered.specs.Ordered.{node_key}
use Rattle.order_halves.specs.First.{First}
use Rattle.order_near.proofs.Near.{first_of_all, first_behind, passed_if}
use Rattle.order_near.proofs.is_first.Goals as goal

pub returns-then-k-eq0 : goal.returns-then-k-eq0
returns-then-k-eq0 c =
    let a = c.args in
    first_of_all c.requires.1 (node_key a.version (place_of a.place)) c.if-k-order.false (sym c.is_before.ensures ∙ c.if-is_before.false)
    c.if-k-eq0.true

pub returns : goal.returns
returns c =
    let a = c.args in
    let key = node_key a.version (place_of a.place) in
    passed_if {P = First (store_of a.store.now).slots a.order.now (length a.order.now) key a.k} c.is_before-2.result
    (λ e.
    first_behind c.requires.1 key c.if-k-order.false (sym c.is_before.ensures ∙ c.if-is_before.false) (omega (arith, c.if-k-eq0.false))
    (sym c.is_before-2.ensures ∙ e))
