-- `move_count::level_of` meets its contract: by its kind. Assumes nothing.
use native.Mathlib.Omega.{arith}
use Rattle.terms.specs.Bits.{Byte}
use Rattle.terms.proofs.Lists.{all_of}
use Rattle.store.proofs.Slots.{slot_within}
use Rattle.move_count.proofs.Levels.{no_level, its_level}
use Rattle.move_count.proofs.level_of.Goals as goal

pub kind_at-requires : goal.kind_at-requires
kind_at-requires c = slot_within c.requires.1

pub returns-then-kind_at-le-LEAF_KIND : goal.returns-then-kind_at-le-LEAF_KIND
returns-then-kind_at-le-LEAF_KIND c = no_level c.requires.0 c.requires.1 c.kind_at.ensures c.if-kind_at-le-LEAF_KIND.true

pub count_at-requires : goal.count_at-requires
count_at-requires c = slot_within c.requires.1

pub returns : goal.returns
returns c =
    its_level c.requires.0 c.requires.1 (all_of Byte c.args.store.now 0 (λ i _. omega (arith, c.shared_slice_known-1.given i))) c.kind_at.ensures
    c.if-kind_at-le-LEAF_KIND.false c.count_at.ensures
