-- `order_near::first_near` meets its contract: a guess that was looked at, or a search. Assumes nothing.
use mathlib.Core.Path.{subst}
use lib.ListN.{length}
use Rattle.place.specs.Place.{place_of}
use Rattle.layout.specs.Stores.{store_of}
use Rattle.check_pass.specs.Passes.{Passed}
use Rattle.ordered.specs.Ordered.{node_key}
use Rattle.order_halves.specs.First.{First}
use Rattle.order_near.proofs.first_near.Goals as goal

pub returns-then-is_first : goal.returns-then-is_first
returns-then-is_first c =
    let a = c.args in
    subst (λ r. Passed r (First (store_of a.store.now).slots a.order.now (length a.order.now) (node_key a.version (place_of a.place)) a.near)) c.if-is_first.true c.is_first.ensures
