-- `index_look::ahead` meets its contract: the bits decide, else what comes after them. Assumes nothing.
use native.Mathlib.Omega.{arith}
use mathlib.Core.Path.{ap, ap₂, sym, ◌∙◌}
use Rattle.terms.specs.Bits.{Byte, before, same_bytes}
use Rattle.terms.proofs.Lists.{all_of}
use Rattle.terms.proofs.Tests.{same_bytes_lem}
use Rattle.hash.proofs.Laws.{read_whole}
use Rattle.layout.specs.Slots.{bits_in}
use Rattle.store.proofs.Slots.{slot_within}
use Rattle.index_look.proofs.Nodes.{by_order}
use Rattle.index_look.proofs.ahead.Goals as goal

pub slot_of-requires : goal.slot_of-requires
slot_of-requires c = slot_within c.requires.0

pub slot_of-requires-2 : goal.slot_of-requires-2
slot_of-requires-2 c = slot_within c.requires.1

pub returns-then-same_hash : goal.returns-then-same_hash
returns-then-same_hash c =
    let own = read_whole c.hash_at.ensures.result_value c.bits_of-own.ensures.1 (c.bits_of-own.ensures.0 ∙ ap bits_in c.slot_of.ensures.0) in
    let other = read_whole c.hash_at-2.ensures.result_value c.bits_of-its.ensures.1 (c.bits_of-its.ensures.0 ∙ ap bits_in c.slot_of-2.ensures.0) in
    c.ahead_there.ensures (same_bytes_lem _ _ (sym (c.same_hash.ensures ∙ ap₂ same_bytes own other) ∙ c.if-same_hash.true))

pub returns : goal.returns
returns c =
    let bits = c.bits_of-own.ensures.0 ∙ ap bits_in c.slot_of.ensures.0 in
    let others = c.bits_of-its.ensures.0 ∙ ap bits_in c.slot_of-2.ensures.0 in
    let own = read_whole c.hash_at.ensures.result_value c.bits_of-own.ensures.1 bits in
    let other = read_whole c.hash_at-2.ensures.result_value c.bits_of-its.ensures.1 others in
    by_order c.requires.0 c.requires.1 (all_of Byte c.args.store.now 0 (λ i _. omega (arith, c.shared_slice_known-1.given i)))
    (sym (c.same_hash.ensures ∙ ap₂ same_bytes own other) ∙ c.if-same_hash.false) _ (c.before-2.ensures ∙ ap₂ before bits others)
