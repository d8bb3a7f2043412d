-- `check_hash::record_hash` meets its contract: the kind says what is hashed. Assumes nothing.
use native.Mathlib.Omega.{arith}
use mathlib.Core.Path.{ap, ◌∙◌}
use Rattle.hash.proofs.Laws.{read_whole}
use Rattle.layout.specs.Slots.{grant_in, left_in, right_in}
use Rattle.store.proofs.Slots.{slot_within}
use Rattle.check_hash.proofs.Fields.{leaf_hash_is, inner_hash_is}
use Rattle.check_hash.proofs.record_hash.Goals as goal

pub slot_of-s-requires : goal.slot_of-s-requires
slot_of-s-requires c = slot_within c.requires

pub kind_at-requires : goal.kind_at-requires
kind_at-requires c = slot_within c.requires

pub returns-then-kind_at-eq-LEAF_KIND : goal.returns-then-kind_at-eq-LEAF_KIND
returns-then-kind_at-eq-LEAF_KIND c =
    leaf_hash_is c.requires c.kind_at.ensures c.if-kind_at-eq-LEAF_KIND.true
    (c.grant_of.ensures.0 ∙ ap grant_in c.slot_of-s.ensures.0) c.leaf_hash.result c.leaf_hash.ensures

pub hash_at-left-requires : goal.hash_at-left-requires
hash_at-left-requires c = omega (arith, c.child_hash.ensures.1)

pub hash_at-right-requires : goal.hash_at-right-requires
hash_at-right-requires c = omega (arith, c.child_hash-2.ensures.1)

pub returns : goal.returns
returns c =
    let l = read_whole c.hash_at-left.ensures.result_value c.child_hash.ensures.1
    (c.child_hash.ensures.0 ∙ ap (λ x. (left_in x).hash) c.slot_of-s.ensures.0) in
    let r = read_whole c.hash_at-right.ensures.result_value c.child_hash-2.ensures.1
    (c.child_hash-2.ensures.0 ∙ ap (λ x. (right_in x).hash) c.slot_of-s.ensures.0) in
    inner_hash_is c.requires c.kind_at.ensures c.if-kind_at-eq-LEAF_KIND.false c.hash_at-left.result c.hash_at-right.result
    c.inner_hash.result l r c.inner_hash.ensures
