-- `apply_place::put_node` meets its contract: the record of a node, if there is one, fills the lowest free slot. Assumes nothing.
use mathlib.Core.Path.{sym}
use Rattle.meaning.specs.Store.{placed}
use Rattle.place.specs.Place.{place_of}
use Rattle.apply_place.specs.Placing.{record_says}
use Rattle.apply_place.proofs.Changing.{slot_within, unchanged, changed_as}
use Rattle.apply_place.proofs.Placing.{placed_gone, placed_leaf, placed_inner}
use Rattle.apply_place.proofs.put_node.Goals as goal

pub put_leaf_new-requires : goal.put_leaf_new-requires
put_leaf_new-requires c = (slot_within c.requires.stored _ c.requires.lowest.within, c.requires.proper)

pub put_inner_at-requires : goal.put_inner_at-requires
put_inner_at-requires c = (slot_within c.requires.stored _ c.requires.lowest.within, c.requires.proper)

pub returns-in-Nothing : goal.returns-in-Nothing
returns-in-Nothing c =
    let m = placed (record_says (place_of c.args.place) c.args.node) in
    changed_as (λ x. x) m (sym (placed_gone (place_of c.args.place) c.args.node c.in-Nothing.is _)) (unchanged c.requires.stored)

pub returns-in-Leaf : goal.returns-in-Leaf
returns-in-Leaf c = placed_leaf (place_of c.args.place) c.args.node c.requires.stored c.in-Leaf.is c.requires.form c.requires.lowest c.put_leaf_new.ensures

pub returns-in-Inner : goal.returns-in-Inner
returns-in-Inner c = placed_inner (place_of c.args.place) c.args.node c.requires.stored c.in-Inner.is c.requires.form c.requires.lowest c.put_inner_at.ensures
