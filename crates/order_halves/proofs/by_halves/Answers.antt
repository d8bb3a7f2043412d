-- `order_halves::by_halves` meets its contract: the entries before lo are before the node, those from hi on are not. Assumes nothing.
use native.Mathlib.Omega.{arith}
use mathlib.Core.Path.{sym, ◌∙◌, subst}
use lib.ListN.{length}
use Rattle.place.specs.Place.{place_of}
use Rattle.layout.specs.Stores.{store_of}
use Rattle.ordered.specs.Ordered.{node_key, Between}
use Rattle.ordered.proofs.Ordered.{between_start, between_above, between_below}
use Rattle.order_halves.proofs.by_halves.Goals as goal

pub loop-lo-init : goal.loop-lo-init
loop-lo-init c = let a = c.args in between_start c.requires.1 (node_key a.version (place_of a.place))

pub loop-lo-preserved-then-is_before : goal.loop-lo-preserved-then-is_before
loop-lo-preserved-then-is_before c =
    let a = c.args in
    let w = c.loop-lo.invariant in
    let l = c.loop-lo-test.true in
    subst (λ k. Between (store_of a.store.now).slots a.order.now (length a.order.now) (node_key a.version (place_of a.place)) k c.loop-lo.hi) (omega arith)
    (between_above c.requires.1 (node_key a.version (place_of a.place)) w (omega (arith, l)) (omega (arith, l)) (sym c.is_before.ensures ∙ c.if-is_before.true))

pub loop-lo-preserved : goal.loop-lo-preserved
loop-lo-preserved c =
    let a = c.args in
    let w = c.loop-lo.invariant in
    let l = c.loop-lo-test.true in
    between_below c.requires.1 (node_key a.version (place_of a.place)) w (omega (arith, l)) (omega (arith, l)) (sym c.is_before.ensures ∙ c.if-is_before.false)

pub returns : goal.returns
returns c =
    let a = c.args in
    let w = c.loop-lo.invariant in
    subst (Between (store_of a.store.now).slots a.order.now (length a.order.now) (node_key a.version (place_of a.place)) c.loop-lo.lo) (omega (arith, w.straight, c.loop-lo-test.false)) w
