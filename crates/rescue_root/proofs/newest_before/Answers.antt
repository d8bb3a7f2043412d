-- `rescue_root::newest_before` meets its contract: the newest root is that of the entry before. Assumes nothing.
use native.Mathlib.Omega.{arith}
use Rattle.terms.specs.Bits.{Byte}
use Rattle.terms.proofs.Lists.{all_of}
use Rattle.store.proofs.Slots.{slot_within}
use Rattle.rescue_root.proofs.Preceding.{before_has, located_before}
use Rattle.rescue_root.proofs.newest_before.Goals as goal

pub bounds-order-k : goal.bounds-order-k
bounds-order-k c = let p = c.requires in omega (arith, p.2.within)

pub version_at-own-requires : goal.version_at-own-requires
version_at-own-requires c = slot_within (before_has c.args.source.now c.requires.0 c.requires.1 c.requires.2.within (omega (arith, c.if-k-eq0.false)) c.wide.ensures.0)

pub first_near-m-requires : goal.first_near-m-requires
first_near-m-requires c = let p = c.requires in (p.0, p.1, c.top-top.ensures.proper)

pub find_first-requires : goal.find_first-requires
find_first-requires c = let p = c.requires in (p.0, p.1, c.top-top.ensures.proper, c.first_near-m.ensures)

pub returns : goal.returns
returns c =
    let s = c.args.source.now in
    located_before s c.requires.0 c.requires.1 c.requires.2.within (omega (arith, c.if-k-eq0.false)) c.wide.ensures.0
    (all_of Byte s 0 (λ i _. omega (arith, c.shared_slice_known-1.given i))) c.args.version c.find_first.result c.top-top.ensures.place c.requires.2 c.requires.3
    c.version_at-own.ensures c.find_first.ensures.0
