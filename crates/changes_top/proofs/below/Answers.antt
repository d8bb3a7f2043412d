-- `changes_top::below` meets its contract: the child of an inner node, or the leaf if its key goes to that side. Assumes nothing.
use mathlib.Core.Path.{subst}
use Rattle.changes_top.specs.Tops.{TopRight}
use Rattle.store.proofs.Slots.{slot_fits}
use Rattle.changes_top.proofs.Tops.{kid_below, leaf_below, leaf_elsewhere, none_below}
use Rattle.changes_top.proofs.below.Goals as goal

pub slot_of-requires : goal.slot_of-requires
slot_of-requires c =
    let a = c.args in
    let h = c.requires in
    let s = a.store.now in
    slot_fits _ s h.0.0 _ (subst (TopRight s a.place) c.in-Leaf.is h.2)

pub returns-then-key_bit-right : goal.returns-then-key_bit-right
returns-then-key_bit-right c =
    let a = c.args in
    leaf_below a.store.now a.place a.longer a.right c.requires.3 _ c.in-Leaf.is c.slot_of.ensures.0
    c.key_of.ensures.0 c.key_bit.ensures c.requires.2 c.if-key_bit-right.true

pub returns-then-right : goal.returns-then-right
returns-then-right c =
    let a = c.args in
    kid_below a.store.now a.place a.longer a.right c.requires.3 _ c.top_at.result c.in-Inner.is
    (rw c.if-right.true) c.top_at.ensures

pub returns-in-Nothing : goal.returns-in-Nothing
returns-in-Nothing c =
    let a = c.args in
    none_below a.store.now a.place a.longer a.right c.requires.3 c.in-Nothing.is

pub returns-else-key_bit-right : goal.returns-else-key_bit-right
returns-else-key_bit-right c =
    let a = c.args in
    leaf_elsewhere a.store.now a.place a.longer a.right c.requires.3 _ c.in-Leaf.is c.slot_of.ensures.0
    c.key_of.ensures.0 c.key_bit.ensures c.if-key_bit-right.false

pub returns-else-right : goal.returns-else-right
returns-else-right c =
    let a = c.args in
    kid_below a.store.now a.place a.longer a.right c.requires.3 _ c.top_at-in-Inner.result c.in-Inner.is
    (rw c.if-right.false) c.top_at-in-Inner.ensures
