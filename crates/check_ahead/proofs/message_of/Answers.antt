-- `check_ahead::message_of` meets its contract: the kind says what is hashed. Assumes nothing.
use native.Mathlib.Omega.{arith}
use mathlib.Core.Path.{ap, ◌∙◌}
use Rattle.hash.proofs.Laws.{read_whole}
use Rattle.layout.specs.Slots.{grant_in, left_in, right_in}
use Rattle.store.proofs.Slots.{slot_within}
use Rattle.check_ahead.proofs.Messages.{leaf_message_lem, inner_message_lem}
use Rattle.check_ahead.proofs.message_of.Goals as goal

pub slot_of-s-requires : goal.slot_of-s-requires
slot_of-s-requires c = slot_within c.requires

pub kind_at-requires : goal.kind_at-requires
kind_at-requires c = slot_within c.requires

pub hash_at-requires : goal.hash_at-requires
hash_at-requires c = omega (arith, c.grant_of-grant.ensures.1)

pub hash_at-requires-then-kind_at-eq-LEAF_KIND : goal.hash_at-requires-then-kind_at-eq-LEAF_KIND
hash_at-requires-then-kind_at-eq-LEAF_KIND c = omega (arith, c.grant_of-grant.ensures.1)

pub returns-then-kind_at-eq-LEAF_KIND : goal.returns-then-kind_at-eq-LEAF_KIND
returns-then-kind_at-eq-LEAF_KIND c = record { kind = omega arith; hash = leaf_message_lem c.requires c.kind_at.ensures c.if-kind_at-eq-LEAF_KIND.true (c.grant_of-grant.ensures.0 ∙ ap grant_in c.slot_of-s.ensures.0) c.hash_at.result c.hash_at-then-kind_at-eq-LEAF_KIND.result c.hash_at.ensures.result_value c.hash_at-then-kind_at-eq-LEAF_KIND.ensures.result_value }

pub hash_at-left-requires : goal.hash_at-left-requires
hash_at-left-requires c = omega (arith, c.child_hash.ensures.1)

pub hash_at-right-requires : goal.hash_at-right-requires
hash_at-right-requires c = omega (arith, c.child_hash-2.ensures.1)

pub returns : goal.returns
returns c = record { kind = omega arith; hash = inner_message_lem c.requires c.kind_at.ensures c.if-kind_at-eq-LEAF_KIND.false c.hash_at-left.result c.hash_at-right.result (read_whole c.hash_at-left.ensures.result_value c.child_hash.ensures.1 (c.child_hash.ensures.0 ∙ ap (λ x. (left_in x).hash) c.slot_of-s.ensures.0)) (read_whole c.hash_at-right.ensures.result_value c.child_hash-2.ensures.1 (c.child_hash-2.ensures.0 ∙ ap (λ x. (right_in x).hash) c.slot_of-s.ensures.0)) }
