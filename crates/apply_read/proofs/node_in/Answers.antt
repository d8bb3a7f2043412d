-- `apply_read::node_in` meets its contract, by what the slot's bytes are. Assumes nothing.
use native.Mathlib.Omega.{arith}
use mathlib.Core.Path.{refl, ap, ◌∙◌}
use Rattle.hash.proofs.Laws.{read_whole}
use Rattle.layout.specs.Slots.{is_leaf, key_in, value_inside}
use Rattle.apply_read.proofs.Held.{slot_there, leaf_held, inner_held}
use Rattle.apply_read.proofs.node_in.Goals as goal

pub slot_of-s-requires : goal.slot_of-s-requires
slot_of-s-requires c = slot_there c.requires

pub version_at-version-requires : goal.version_at-version-requires
version_at-version-requires c = slot_there c.requires

pub hash_at-key-requires : goal.hash_at-key-requires
hash_at-key-requires c = omega (arith, c.key_of.ensures.1)

pub hash_at-value-requires : goal.hash_at-value-requires
hash_at-value-requires c = omega (arith, c.value_of.ensures.1)

pub returns-then-is_leaf : goal.returns-then-is_leaf
returns-then-is_leaf c = leaf_held c.requires refl c.hash_at-key.result c.hash_at-value.result (c.is_leaf.ensures ∙ ap is_leaf c.slot_of-s.ensures.0) c.if-is_leaf.true c.version_at-version.ensures (read_whole c.hash_at-key.ensures.result_value c.key_of.ensures.1 (c.key_of.ensures.0 ∙ ap key_in c.slot_of-s.ensures.0)) (read_whole c.hash_at-value.ensures.result_value c.value_of.ensures.1 (c.value_of.ensures.0 ∙ ap value_inside c.slot_of-s.ensures.0))

pub child_on-left-requires : goal.child_on-left-requires
child_on-left-requires c = slot_there c.requires

pub child_on-right-requires : goal.child_on-right-requires
child_on-right-requires c = slot_there c.requires

pub child_count_at-lefts-requires : goal.child_count_at-lefts-requires
child_count_at-lefts-requires c = slot_there c.requires

pub child_count_at-rights-requires : goal.child_count_at-rights-requires
child_count_at-rights-requires c = slot_there c.requires

pub returns : goal.returns
returns c = inner_held c.requires refl c.child_on-left.result c.child_on-right.result (c.is_leaf.ensures ∙ ap is_leaf c.slot_of-s.ensures.0) c.if-is_leaf.false c.version_at-version.ensures c.child_on-left.ensures c.child_on-right.ensures c.child_count_at-lefts.ensures c.child_count_at-rights.ensures
