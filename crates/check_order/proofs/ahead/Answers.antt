-- `check_order::ahead` meets its contract: bit count, then bits, then version. Assumes nothing.
use mathlib.Core.Path.{ap, ◌∙◌}
use Rattle.hash.proofs.Laws.{read_whole}
use Rattle.layout.specs.Slots.{bits_in}
use Rattle.layout.specs.Stores.{slot_in}
use Rattle.check_order.specs.Order.{key_no}
use Rattle.store.proofs.Slots.{slot_within, slot_long}
use Rattle.check_order.proofs.Keys.{by_count_lem, by_version, by_bits}
use Rattle.check_order.proofs.ahead.Goals as goal

pub count_at-c-requires : goal.count_at-c-requires
count_at-c-requires c = slot_within c.requires.0

pub count_at-d-requires : goal.count_at-d-requires
count_at-d-requires c = slot_within c.requires.1

pub returns-then-c-d : goal.returns-then-c-d
unfolding key_no
returns-then-c-d c =
    by_count_lem c.args.form (slot_in c.args.form c.args.i c.args.store.now) (slot_in c.args.form c.args.j c.args.store.now) c.count_at-c.ensures
    c.count_at-d.ensures c.if-c-d.true

pub slot_of-requires : goal.slot_of-requires
slot_of-requires c = slot_within c.requires.0

pub slot_of-requires-2 : goal.slot_of-requires-2
slot_of-requires-2 c = slot_within c.requires.1

pub version_at-requires : goal.version_at-requires
version_at-requires c = slot_within c.requires.0

pub version_at-requires-then-same_hash : goal.version_at-requires-then-same_hash
version_at-requires-then-same_hash c = slot_within c.requires.1

pub returns-then-same_hash : goal.returns-then-same_hash
unfolding key_no
returns-then-same_hash c =
    by_version c.args.form (slot_in c.args.form c.args.i c.args.store.now) (slot_in c.args.form c.args.j c.args.store.now)
    c.count_at-c.ensures c.count_at-d.ensures c.if-c-d.false
    (slot_long _ c.args.i c.args.store.now (slot_within c.requires.0))
    (slot_long _ c.args.j c.args.store.now (slot_within c.requires.1))
    (read_whole c.hash_at.ensures.result_value c.bits_of-x.ensures.1 (c.bits_of-x.ensures.0 ∙ ap bits_in c.slot_of.ensures.0))
    (read_whole c.hash_at-2.ensures.result_value c.bits_of-y.ensures.1
    (c.bits_of-y.ensures.0 ∙ ap bits_in c.slot_of-2.ensures.0)) c.same_hash.ensures c.if-same_hash.true
    c.version_at.ensures c.version_at-then-same_hash.ensures

pub returns : goal.returns
unfolding key_no
returns c =
    by_bits c.args.form (slot_in c.args.form c.args.i c.args.store.now) (slot_in c.args.form c.args.j c.args.store.now) c.count_at-c.ensures
    c.count_at-d.ensures c.if-c-d.false (slot_long _ c.args.i c.args.store.now (slot_within c.requires.0))
    (slot_long _ c.args.j c.args.store.now (slot_within c.requires.1))
    (read_whole c.hash_at.ensures.result_value c.bits_of-x.ensures.1 (c.bits_of-x.ensures.0 ∙ ap bits_in c.slot_of.ensures.0))
    (read_whole c.hash_at-2.ensures.result_value c.bits_of-y.ensures.1
    (c.bits_of-y.ensures.0 ∙ ap bits_in c.slot_of-2.ensures.0)) c.same_hash.ensures c.if-same_hash.false
    (c.bits_of-x.ensures.0 ∙ ap bits_in c.slot_of.ensures.0)
    (c.bits_of-y.ensures.0 ∙ ap bits_in c.slot_of-2.ensures.0) c.before-2.ensures
