-- `check_store::suspect_passes` meets its contract: a suspect that fails settles it. Assumes nothing.
use native.Mathlib.Omega.{arith}
use Rattle.check_pass.proofs.Records.{room_has}
use Rattle.check_store.proofs.Suspects.{one_fails}
use Rattle.check_store.proofs.suspect_passes.Goals as goal

pub slot_count-n-requires : goal.slot_count-n-requires
slot_count-n-requires c = c.requires.size

pub slot_passes-requires : goal.slot_passes-requires
slot_passes-requires c = ((room_has (record { size = c.requires.size; many = c.slot_count-n.ensures }) (omega (arith, c.if-n-i.false))), c.requires)

pub returns-then-not-slot_passes : goal.returns-then-not-slot_passes
returns-then-not-slot_passes c =
    one_fails c.args.store.now c.args.i
    (room_has (record { size = c.requires.size; many = c.slot_count-n.ensures }) (omega (arith, c.if-n-i.false)))
    c.slot_passes.ensures c.if-not-slot_passes.true
