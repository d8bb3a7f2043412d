-- `check_cover::slot_covered` meets its contract: the kept life by the fields. Assumes nothing.
use native.Mathlib.Omega.{arith}
use Rattle.terms.specs.Bits.{Byte}
use Rattle.terms.proofs.Lists.{all_of}
use Rattle.store.proofs.Slots.{slot_within}
use mathlib.Core.Path.{refl}
use Rattle.check_cover.proofs.Covering.{root_covered, life_covered_lem}
use Rattle.check_cover.proofs.slot_covered.Goals as goal

pub count_at-requires : goal.count_at-requires
count_at-requires c = slot_within c.requires.0

pub returns-then-count_at-eq0 : goal.returns-then-count_at-eq0
returns-then-count_at-eq0 c =
    root_covered c.args.store.now c.args.i c.requires.0
    (all_of Byte c.args.store.now 0 (λ i _. omega (arith, c.shared_slice_known-1.given i))) c.count_at.ensures
    c.if-count_at-eq0.true c.args.sum

pub retired_at-requires : goal.retired_at-requires
retired_at-requires c = slot_within c.requires.0

pub version_at-requires : goal.version_at-requires
version_at-requires c = slot_within c.requires.0

pub returns : goal.returns
returns c =
    life_covered_lem c.args.store.now c.args.i c.requires.0 c.requires.1 c.version_at.ensures
    c.retired_at.ensures c.ends_before-ends.ensures.0 c.kept_life.ensures _ c.args.sum refl
