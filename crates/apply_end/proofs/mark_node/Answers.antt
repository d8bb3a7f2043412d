-- `apply_end::mark_node` meets its contract: the one record that is the node is found and marked. Assumes nothing.
use mathlib.Core.Path.{sym}
use native.Mathlib.Omega.{arith}
use Rattle.place.specs.Place.{place_of}
use Rattle.layout.specs.Stores.{store_of}
use Rattle.apply_place.proofs.Changing.{slot_within, unchanged, not_writing, writing, changed_as, mark_changed}
use Rattle.apply_place.proofs.Marking.{marks, found_none, found_at, mark_none, mark_found}
use Rattle.apply_end.proofs.mark_node.Goals as goal

pub returns-then-not-writes : goal.returns-then-not-writes
returns-then-not-writes c = not_writing c.args.writes _ c.if-not-writes.true c.requires.stored

pub returns-in_default : goal.returns-in_default
returns-in_default c =
    let v = c.args.version in
    let p = place_of c.args.place in
    let m = marks c.args.since v p in
    let n = found_none v p (store_of c.args.store.now).slots c.in_default.is c.find_near.ensures in
    writing c.args.writes m c.if-not-writes.false (changed_as (λ x. x) m (sym (mark_none c.args.since v p _ n)) (unchanged c.requires.stored))

pub put_retired_at-requires : goal.put_retired_at-requires
put_retired_at-requires c =
    let f = found_at c.args.version (place_of c.args.place) (store_of c.args.store.now).slots c.in-Some.is c.find_near.ensures in
    slot_within c.requires.stored _ f.0

pub returns : goal.returns
returns c =
    let v = c.args.version in
    let p = place_of c.args.place in
    let s = (store_of c.args.store.now).slots in
    let f = found_at v p s c.in-Some.is c.find_near.ensures in
    let m = marks c.args.since v p in
    writing c.args.writes m c.if-not-writes.false
    (mark_changed c.requires.stored _ f.0 m f.1.0 c.args.since (omega arith) f.1.1
    (mark_found c.args.since v p s c.in-Some.i f.1.0 c.requires.single f.1.1 f.1.2) c.put_retired_at.ensures)
