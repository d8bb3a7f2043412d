-- `rescue_look::scanned` meets its contract: no slot passed holds the node, so the first that does is the lowest. Assumes nothing.
use native.Mathlib.Omega.{arith}
use Rattle.terms.specs.Bits.{Byte}
use Rattle.terms.proofs.Lists.{all_of}
use Rattle.place.specs.Place.{place_of}
use Rattle.store.proofs.Scans.{scan_slot}
use Rattle.rescue_look.proofs.Looking.{passed_start, passed_next, passed_found, passed_end, no_version}
use Rattle.rescue_look.proofs.scanned.Goals as goal

pub returns-then-version-eq0 : goal.returns-then-version-eq0
returns-then-version-eq0 c =
    let s = c.args.source.now in
    no_version s c.requires.0 (all_of Byte s 0 (λ i _. omega (arith, c.shared_slice_known-1.given i))) c.args.version (place_of c.args.place) c.if-version-eq0.true

pub slot_count-i-end-requires : goal.slot_count-i-end-requires
slot_count-i-end-requires c = c.requires.0

pub loop-i-init : goal.loop-i-init
loop-i-init c = passed_start c.args.source.now c.args.version (place_of c.args.place) c.requires.0 c.slot_count-i-end.ensures

pub holds_node-requires : goal.holds_node-requires
holds_node-requires c = (scan_slot c.loop-i.invariant c.loop-i-test.true, c.requires.1)

pub loop-i-preserved : goal.loop-i-preserved
loop-i-preserved c =
    let a = c.args in
    passed_next a.version (place_of a.place) c.loop-i.invariant c.loop-i-test.true c.holds_node.ensures c.if-holds_node.false

pub returns : goal.returns
returns c =
    let a = c.args in
    passed_end a.source.now a.version (place_of a.place) c.loop-i.invariant (omega arith)

pub returns-then-holds_node : goal.returns-then-holds_node
returns-then-holds_node c =
    let a = c.args in
    passed_found a.version (place_of a.place) c.loop-i.invariant c.loop-i-test.true c.holds_node.ensures c.if-holds_node.true
