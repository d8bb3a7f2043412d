-- `index_look::ahead_there` meets its contract: the bit counts decide, else the versions. Assumes nothing.
use native.Mathlib.Omega.{arith}
use Rattle.terms.specs.Bits.{Byte}
use Rattle.terms.proofs.Lists.{all_of}
use Rattle.store.proofs.Slots.{slot_within}
use Rattle.index_look.proofs.Nodes.{by_count_lem, by_versions}
use Rattle.index_look.proofs.ahead_there.Goals as goal

pub count_at-its-requires : goal.count_at-its-requires
count_at-its-requires c = slot_within c.requires.0

pub count_at-other-requires : goal.count_at-other-requires
count_at-other-requires c = slot_within c.requires.1

pub returns-then-its-other : goal.returns-then-its-other
returns-then-its-other c =
    by_count_lem c.requires.0 c.requires.1 (all_of Byte c.args.store.now 0 (λ i _. omega (arith, c.shared_slice_known-1.given i)))
    c.count_at-its.ensures c.count_at-other.ensures c.if-its-other.true

pub version_at-requires : goal.version_at-requires
version_at-requires c = slot_within c.requires.0

pub version_at-requires-2 : goal.version_at-requires-2
version_at-requires-2 c = slot_within c.requires.1

pub returns : goal.returns
returns c =
    by_versions c.requires.0 c.requires.1 (all_of Byte c.args.store.now 0 (λ i _. omega (arith, c.shared_slice_known-1.given i)))
    c.count_at-its.ensures c.count_at-other.ensures c.if-its-other.false c.version_at.ensures c.version_at-2.ensures
