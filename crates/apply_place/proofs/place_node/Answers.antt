-- `apply_place::place_node` meets its contract: counted, or placed in the lowest free slot, if there is one. Assumes nothing.
use native.Mathlib.Omega.{arith}
use mathlib.Core.Path.{sym}
use Rattle.meaning.specs.Store.{placed}
use Rattle.place.specs.Place.{place_of}
use Rattle.layout.specs.Stores.{store_of}
use Rattle.apply_place.specs.Placing.{record_says}
use Rattle.apply_place.proofs.Changing.{unchanged, writing, changed_as, stored_accepted}
use Rattle.apply_place.proofs.Placing.{free_at, placed_full}
use Rattle.apply_place.proofs.Reaching.{size_small, clear_when, counted, full, put}
use Rattle.apply_place.proofs.place_node.Goals as goal

pub more-requires : goal.more-requires
more-requires c = (c.requires.starts.few, omega (arith, c.size-n.ensures, size_small c.args.node))

pub returns-then-not-writes : goal.returns-then-not-writes
returns-then-not-writes c = counted c.args.writes (place_of c.args.place) c.args.node c.if-not-writes.true c.requires.stored c.size-n.ensures c.more.ensures

pub find_free-requires : goal.find_free-requires
find_free-requires c = (c.requires.stored, clear_when c.args.writes c.if-not-writes.false c.requires.starts)

pub returns-in_default : goal.returns-in_default
returns-in_default c =
    let p = place_of c.args.place in
    let m = placed (record_says p c.args.node) in
    let w = c.if-not-writes.false in
    full c.args.writes p c.args.node w c.requires.starts
    (writing c.args.writes m w (changed_as (λ x. x) m (sym (placed_full p c.args.node c.in_default.is c.find_free.ensures)) (unchanged c.requires.stored)))

pub put_node-requires : goal.put_node-requires
put_node-requires c =
    record {
      stored = c.requires.stored;
      proper = c.requires.proper;
      lowest = free_at (store_of c.args.store.now).slots c.in-Some.is c.find_free.ensures;
      form = c.requires.form c.if-not-writes.false;
    }

pub overflow_add-result : goal.overflow_add-result
overflow_add-result c =
    let l = (free_at (store_of c.args.store.now).slots c.in-Some.is c.find_free.ensures).within in
    omega (arith, l, (stored_accepted c.requires.stored).fits, c.size-n.ensures, size_small c.args.node)

pub returns : goal.returns
returns c = put c.args.writes (place_of c.args.place) c.args.node c.if-not-writes.false c.requires.stored (free_at (store_of c.args.store.now).slots c.in-Some.is c.find_free.ensures) c.size-n.ensures c.put_node.ensures
