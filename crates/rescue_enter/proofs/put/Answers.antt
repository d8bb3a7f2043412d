-- `rescue_enter::put` meets its contract: the record's slot is copied and its retired-since set. Assumes nothing.
use native.Mathlib.Omega.{arith}
use mathlib.Core.Path.{◌∙◌}
use Rattle.terms.specs.Bits.{Byte}
use Rattle.terms.proofs.Lists.{all_of}
use Rattle.rescue_enter.proofs.Putting.{put_none, held_slot, put_at}
use Rattle.rescue_enter.proofs.put.Goals as goal

pub returns-in_default : goal.returns-in_default
returns-in_default c = put_none c.args.source.now c.args.target.now c.args.since c.requires.0 c.in_default.is

pub slot_of-requires : goal.slot_of-requires
slot_of-requires c = (held_slot c.args.source.now c.args.target.now c.requires.0 c.requires.1 c.in-Some.is).0

pub copy_slot-requires : goal.copy_slot-requires
copy_slot-requires c = ((held_slot c.args.source.now c.args.target.now c.requires.0 c.requires.1 c.in-Some.is).1, c.slot_of.ensures.1)

pub put_retired_at-requires : goal.put_retired_at-requires
put_retired_at-requires c = omega (arith, (held_slot c.args.source.now c.args.target.now c.requires.0 c.requires.1 c.in-Some.is).1, c.copy_slot.auto.store)

pub returns : goal.returns
returns c =
    put_at c.args.source.now c.args.target.now c.requires.0 c.requires.1 c.in-Some.is
    (all_of Byte c.args.source.now 0 (λ i _. omega (arith, c.shared_slice_known-1.given i))) c.args.since (omega arith)
    c.slot_of.ensures.0 c.copy_slot.ensures c.put_retired_at.ensures (c.put_retired_at.auto.store ∙ c.copy_slot.auto.store)
