-- `index_search::search` meets its contract: what is left between lo and hi gives what the whole search gives. Assumes nothing.
use Prim.Native.Nat.{◌-◌}
use native.Mathlib.Omega.{arith}
use mathlib.Core.Path.{sym, ◌∙◌, subst}
use lib.ListN.{length}
use Rattle.terms.specs.declared.Form.TheVariants.{Counted as counted}
use Rattle.indexed.proofs.Halving.{Between, search_start, search_above, search_below, search_met, search_over}
use Rattle.indexed.proofs.Searching.{entry_met}
use Rattle.indexed.proofs.Scanned.{search_nowhere}
use Rattle.place.specs.Place.{place_of}
use Rattle.layout.specs.Stores.{store_of}
use Rattle.layout.proofs.Headers.{size_says}
use Rattle.store.proofs.Slots.{slots_many}
use Rattle.index_entry.specs.Entries.{look_for}
use Rattle.index_search.proofs.Searching.{own_met, was_small, was_great, was_met, in_middle_lem}
use Rattle.index_search.proofs.search.Goals as goal

pub returns-then-table-eq0 : goal.returns-then-table-eq0
returns-then-table-eq0 c =
    let a = c.args in
    search_nowhere (look_for a.root a.version (place_of a.place)) a.table.now (store_of a.store.now).slots c.if-table-eq0.true

pub slot_count-n-requires : goal.slot_count-n-requires
slot_count-n-requires c = c.requires.0

pub loop-lo-init : goal.loop-lo-init
loop-lo-init c =
    let a = c.args in
    let look = look_for a.root a.version (place_of a.place) in
    let s = (store_of a.store.now).slots in
    let many = c.slot_count-n.ensures ∙ sym (slots_many counted a.store.now) in
    (subst (λ h. Between look a.table.now s 0 h) (sym many) (search_start look a.table.now s), many, omega (arith, c.slot_count-n.ensures, size_says counted (length a.store.now) c.requires.0))

pub overflow_add-middle : goal.overflow_add-middle
overflow_add-middle c = let inv = c.loop-lo.invariant in omega (arith, inv.0.within, inv.0.ordered, inv.1, inv.2)

pub look_entry-look-requires : goal.look_entry-look-requires
look_entry-look-requires c = (c.requires.0, c.slot_count-n.ensures, c.requires.1)

pub overflow_add-lo : goal.overflow_add-lo
overflow_add-lo c = let inv = c.loop-lo.invariant in omega (arith, inv.0.within, inv.0.ordered, inv.1, inv.2)

pub loop-lo-smaller-in-Less : goal.loop-lo-smaller-in-Less
loop-lo-smaller-in-Less c = let less = c.loop-lo-test.true in omega arith

pub loop-lo-preserved-in-Less : goal.loop-lo-preserved-in-Less
loop-lo-preserved-in-Less c =
    let a = c.args in
    let look = look_for a.root a.version (place_of a.place) in
    let s = (store_of a.store.now).slots in
    let inv = c.loop-lo.invariant in
    let less = c.loop-lo-test.true in
    let seen = c.look_entry-look.ensures in
    let here = in_middle_lem look a.table.now s c.loop-lo.lo c.loop-lo.hi inv.1 c.entry_at-entry.ensures in
    let above = search_above look a.table.now s inv.0 less (sym here ∙ was_small _ _ seen c.in-Less.is) in
    (subst (λ k. Between look a.table.now s k c.loop-lo.hi) (omega arith) above, inv.1, inv.2)

pub loop-lo-smaller : goal.loop-lo-smaller
loop-lo-smaller c = let less = c.loop-lo-test.true in omega arith

pub loop-lo-preserved : goal.loop-lo-preserved
loop-lo-preserved c =
    let a = c.args in
    let look = look_for a.root a.version (place_of a.place) in
    let s = (store_of a.store.now).slots in
    let inv = c.loop-lo.invariant in
    let less = c.loop-lo-test.true in
    let seen = c.look_entry-look.ensures in
    let here = in_middle_lem look a.table.now s c.loop-lo.lo c.loop-lo.hi inv.1 c.entry_at-entry.ensures in
    (search_below look a.table.now s inv.0 less (sym here ∙ was_great _ _ seen c.in-Greater.is), inv.1, inv.2)

pub returns-in-Equal : goal.returns-in-Equal
returns-in-Equal c =
    let a = c.args in
    let look = look_for a.root a.version (place_of a.place) in
    let s = (store_of a.store.now).slots in
    let inv = c.loop-lo.invariant in
    let less = c.loop-lo-test.true in
    let seen = c.look_entry-look.ensures in
    let here = in_middle_lem look a.table.now s c.loop-lo.lo c.loop-lo.hi inv.1 c.entry_at-entry.ensures in
    let met = was_met _ _ seen c.in-Equal.is in
    let slot = entry_met look (own_met a.root a.version (place_of a.place)) s c.entry_at-entry.result met.0 met.1 in
    (slot.0, (met.0, slot.1, search_met look a.table.now s inv.0 met.0 less (sym here ∙ met.1)))

pub returns : goal.returns
returns c =
    let a = c.args in
    search_over (look_for a.root a.version (place_of a.place)) a.table.now (store_of a.store.now).slots c.loop-lo.invariant.0 c.loop-lo-test.false
