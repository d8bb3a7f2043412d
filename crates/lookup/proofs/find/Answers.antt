-- `lookup::find` meets its contract: each slot passed does not match, so the first that does is the one found. Assumes nothing.
use Prim.Native.Nat.{◌+◌, ◌-◌}
use mathlib.Core.Path.{ap, sym, ◌∙◌}
use native.Mathlib.Omega.{arith}
use borrow.Author.Rules.{rules}
use Rattle.place.specs.Place.{place_of}
use Rattle.layout.proofs.Headers.{slot_one}
use Rattle.store.proofs.Slots.{slot_within}
use Rattle.store.proofs.Scans.{scan_slot}
use Rattle.lookup.proofs.Searching.{from_start, other_version, other_count, none_left, byte_more, byte_off, found_here, spoiled_here}
use Rattle.lookup.proofs.find.Goals as goal

pub slot_count-n-requires : goal.slot_count-n-requires
slot_count-n-requires c = c.requires.0

-- src/lib.rt:42:5
pub slots-init : goal.slots-init
unfolding place_of
slots-init c =
    from_start c.args.store.now c.args.version c.args.place.bits c.args.place.count c.requires.0 c.slot_count-n.ensures
    (λ i. omega (arith, c.shared_slice_known-1.given i))
    c.requires.1.short (search rules) c.requires.1.trimmed

-- src/lib.rt:46:23
pub slot_start-at-requires : goal.slot_start-at-requires
slot_start-at-requires c = let h = slot_within (scan_slot c.slots.invariant.scan c.if-n-i.false) in search (rules, h)

-- src/lib.rt:47:27
pub overflow_add-at : goal.overflow_add-at
overflow_add-at c = omega (arith, slot_within (scan_slot c.slots.invariant.scan c.if-n-i.false))

-- src/lib.rt:47:12
pub get_u32-requires : goal.get_u32-requires
get_u32-requires c = omega (arith, slot_within (scan_slot c.slots.invariant.scan c.if-n-i.false))

-- src/lib.rt:42:5
pub slots-preserved-then-get_u32-version : goal.slots-preserved-then-get_u32-version
slots-preserved-then-get_u32-version c = other_version c.slots.invariant c.if-n-i.false _ c.slot_start-at.ensures.0 (λ e. c.if-get_u32-version.true (c.get_u32.ensures ∙ e))

-- src/lib.rt:51:27
pub overflow_add-at-in-slots : goal.overflow_add-at-in-slots
overflow_add-at-in-slots c = omega (arith, slot_within (scan_slot c.slots.invariant.scan c.if-n-i.false))

-- src/lib.rt:51:12
pub get_u16-requires : goal.get_u16-requires
get_u16-requires c = omega (arith, slot_within (scan_slot c.slots.invariant.scan c.if-n-i.false))

-- src/lib.rt:42:5
pub slots-preserved-then-get_u16-count : goal.slots-preserved-then-get_u16-count
slots-preserved-then-get_u16-count c = other_count c.slots.invariant c.if-n-i.false _ c.slot_start-at.ensures.0 (λ e. c.if-get_u16-count.true (c.get_u16.ensures ∙ e))

-- src/lib.rt:56:9
pub loop-k-init : goal.loop-k-init
loop-k-init c =
    let w = slot_within (scan_slot c.slots.invariant.scan c.if-n-i.false) in
    record {
      slots = c.slots.invariant;
      inside = c.if-n-i.false;
      here = c.slot_start-at.ensures.0;
      whole = w;
      fits = omega (arith, c.slot_start-at.ensures);
      within = omega arith;
      version = sym c.get_u32.ensures ∙ c.if-get_u32-version.false;
      bits = sym c.get_u16.ensures ∙ c.if-get_u16-count.false;
      same = λ j h. absurd (omega arith);
    }

-- src/lib.rt:42:5
pub slots-smaller-then-store-at : goal.slots-smaller-then-store-at
slots-smaller-then-store-at c =
    let w = c.loop-k.invariant in
    omega (arith, w.inside, slot_one c.args.form c.slots.i c.loop-k.i (sym c.slot_start-at.ensures.0 ∙ w.here))

-- src/lib.rt:42:5
pub slots-preserved-then-store-at : goal.slots-preserved-then-store-at
slots-preserved-then-store-at c = byte_off c.loop-k.invariant c.loop-k-test.true c.if-store-at.true

-- src/lib.rt:56:9
pub loop-k-preserved : goal.loop-k-preserved
loop-k-preserved c = byte_more c.loop-k.invariant c.loop-k-test.true c.if-store-at.false

pub overflow_add-end : goal.overflow_add-end
overflow_add-end c = omega (arith, c.loop-k.invariant)

-- src/lib.rt:64:25
pub slice_bounds-holds_record-end : goal.slice_bounds-holds_record-end
slice_bounds-holds_record-end c = omega (arith, c.loop-k.invariant)

-- src/lib.rt:42:5
pub slots-smaller : goal.slots-smaller
slots-smaller c =
    let w = c.loop-k.invariant in
    omega (arith, w.inside, slot_one c.args.form c.slots.i c.loop-k.i (sym c.slot_start-at.ensures.0 ∙ w.here))

-- src/lib.rt:42:5
pub slots-preserved : goal.slots-preserved
slots-preserved c = spoiled_here c.loop-k.invariant (ap (c.slot_start-at.result +◌) c.slot_size.ensures.0) (sym c.holds_record.ensures ∙ c.if-holds_record.false)

-- src/lib.rt:34:1
pub returns-then-n-i : goal.returns-then-n-i
unfolding place_of
returns-then-n-i c = none_left c.slots.invariant c.if-n-i.true

-- src/lib.rt:34:1
pub returns-then-holds_record : goal.returns-then-holds_record
unfolding place_of
returns-then-holds_record c = found_here c.loop-k.invariant (ap (c.slot_start-at.result +◌) c.slot_size.ensures.0) c.loop-k-test.false (sym c.holds_record.ensures ∙ c.if-holds_record.true)
