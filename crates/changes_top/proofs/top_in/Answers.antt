-- `changes_top::top_in` meets its contract, by what kind of record there is. Assumes nothing.
use Rattle.changes_top.proofs.Tops.{leaf_top, inner_top}
use Rattle.changes_top.proofs.top_in.Goals as goal

pub returns-then-is_leaf : goal.returns-then-is_leaf
returns-then-is_leaf c =
    let a = c.args in
    leaf_top a.store.now a.i c.slot_of-slot.ensures.0 c.is_leaf.ensures c.if-is_leaf.true

pub returns : goal.returns
returns c =
    let a = c.args in
    inner_top a.store.now a.i c.slot_of-slot.ensures.0 c.is_leaf.ensures c.if-is_leaf.false
    c.version_at-version.ensures c.child_version_at-left.ensures c.child_version_at-right.ensures
