-- `forged_slot::record_message` meets its contract: the parts are read where they lie. Assumes nothing.
use native.Mathlib.Omega.{arith}
use mathlib.Core.Path.{refl, sym, ◌∙◌}
use Rattle.hash.proofs.Laws.{read_whole}
use Rattle.forged_slot.proofs.Messages.{leaf_message_lem, inner_message_lem}
use Rattle.forged_slot.proofs.record_message.Goals as goal

pub hash_at-first-requires : goal.hash_at-first-requires
hash_at-first-requires c = omega (arith, c.key_of.ensures.1)

pub hash_at-second-requires : goal.hash_at-second-requires
hash_at-second-requires c = omega (arith, c.value_of.ensures.1)

pub returns-then-is_leaf : goal.returns-then-is_leaf
returns-then-is_leaf c =
    leaf_message_lem _ _ (sym c.is_leaf.ensures ∙ c.if-is_leaf.true) refl
    (read_whole c.hash_at-first.ensures.result_value c.key_of.ensures.1 c.key_of.ensures.0)
    (read_whole c.hash_at-second.ensures.result_value c.value_of.ensures.1 c.value_of.ensures.0)

pub hash_at-first-requires-2 : goal.hash_at-first-requires-2
hash_at-first-requires-2 c = omega (arith, c.child_hash.ensures.1)

pub hash_at-second-requires-2 : goal.hash_at-second-requires-2
hash_at-second-requires-2 c = omega (arith, c.child_hash-2.ensures.1)

pub returns : goal.returns
returns c =
    inner_message_lem _ _ (sym c.is_leaf.ensures ∙ c.if-is_leaf.false) refl
    (read_whole c.hash_at-first-2.ensures.result_value c.child_hash.ensures.1 c.child_hash.ensures.0)
    (read_whole c.hash_at-second-2.ensures.result_value c.child_hash-2.ensures.1 c.child_hash-2.ensures.0)
