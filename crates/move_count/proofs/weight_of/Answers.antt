-- `move_count::weight_of` meets its contract: a leaf is one, an inner record what the table has. Assumes nothing.
use native.Mathlib.Omega.{arith}
use Rattle.check_pass.proofs.Records.{slot_small}
use Rattle.store.proofs.Slots.{slot_within}
use Rattle.move_count.proofs.Nodes.{leaf_weighs, inner_weighs}
use Rattle.move_count.proofs.weight_of.Goals as goal

pub kind_at-requires : goal.kind_at-requires
kind_at-requires c = slot_within c.requires

pub returns-then-kind_at-eq-LEAF_KIND : goal.returns-then-kind_at-eq-LEAF_KIND
returns-then-kind_at-eq-LEAF_KIND c = leaf_weighs c.requires c.args.counts.now c.kind_at.ensures c.if-kind_at-eq-LEAF_KIND.true

pub overflow_mul-c : goal.overflow_mul-c
overflow_mul-c c = omega (arith, slot_small c.requires)

pub offset_bounds-counts-c : goal.offset_bounds-counts-c
offset_bounds-counts-c c = omega (arith, slot_small c.requires)

pub bounds-counts-c : goal.bounds-counts-c
bounds-counts-c c = omega (arith, slot_small c.requires)

pub overflow_mul-c-2 : goal.overflow_mul-c-2
overflow_mul-c-2 c = omega (arith, slot_small c.requires)

pub overflow_add-c : goal.overflow_add-c
overflow_add-c c = omega (arith, slot_small c.requires)

pub offset_bounds-counts-c-2 : goal.offset_bounds-counts-c-2
offset_bounds-counts-c-2 c = omega (arith, slot_small c.requires)

pub bounds-counts-c-2 : goal.bounds-counts-c-2
bounds-counts-c-2 c = omega (arith, slot_small c.requires)

pub returns : goal.returns
returns c = inner_weighs c.requires c.args.counts.now c.kind_at.ensures c.if-kind_at-eq-LEAF_KIND.false c.wide.ensures.0 c.wide-2.ensures.0
