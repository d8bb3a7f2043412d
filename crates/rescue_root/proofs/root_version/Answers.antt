-- `rescue_root::root_version` meets its contract: the newest root record counts unless it is retired by then. Assumes nothing.
use native.Mathlib.Omega.{arith}
use Rattle.terms.specs.Bits.{Byte}
use Rattle.terms.proofs.Lists.{all_of}
use Rattle.store.proofs.Slots.{slot_within}
use Rattle.rescue_root.proofs.Newest.{root_none, root_has, root_unretired, root_later, root_retired}
use Rattle.rescue_root.proofs.root_version.Goals as goal

pub newest_by-newest-requires : goal.newest_by-newest-requires
newest_by-newest-requires c = c.requires

pub returns-in_default : goal.returns-in_default
returns-in_default c =
    let s = c.args.source.now in
    root_none s c.args.version c.requires.0 (all_of Byte s 0 (λ i _. omega (arith, c.shared_slice_known-1.given i))) c.newest_by-newest.ensures c.in_default.is

pub retired_at-since-requires : goal.retired_at-since-requires
retired_at-since-requires c =
    let s = c.args.source.now in
    slot_within (root_has s c.args.version c.requires.0 (all_of Byte s 0 (λ i _. omega (arith, c.shared_slice_known-1.given i))) c.newest_by-newest.ensures c.in-Some.is)

pub version_at-v-requires : goal.version_at-v-requires
version_at-v-requires c =
    let s = c.args.source.now in
    slot_within (root_has s c.args.version c.requires.0 (all_of Byte s 0 (λ i _. omega (arith, c.shared_slice_known-1.given i))) c.newest_by-newest.ensures c.in-Some.is)

pub returns-then-since-eq0 : goal.returns-then-since-eq0
returns-then-since-eq0 c =
    let s = c.args.source.now in
    root_unretired s c.args.version c.requires.0 (all_of Byte s 0 (λ i _. omega (arith, c.shared_slice_known-1.given i))) c.newest_by-newest.ensures c.in-Some.is
    c.version_at-v.ensures c.retired_at-since.ensures c.if-since-eq0.true

pub returns-then-since-version : goal.returns-then-since-version
returns-then-since-version c =
    let s = c.args.source.now in
    root_retired s c.args.version c.requires.0 (all_of Byte s 0 (λ i _. omega (arith, c.shared_slice_known-1.given i))) c.newest_by-newest.ensures c.in-Some.is
    c.version_at-v.ensures c.retired_at-since.ensures c.if-since-eq0.false c.if-since-version.true

pub returns : goal.returns
returns c =
    let s = c.args.source.now in
    root_later s c.args.version c.requires.0 (all_of Byte s 0 (λ i _. omega (arith, c.shared_slice_known-1.given i))) c.newest_by-newest.ensures c.in-Some.is
    c.version_at-v.ensures c.retired_at-since.ensures c.if-since-version.false
