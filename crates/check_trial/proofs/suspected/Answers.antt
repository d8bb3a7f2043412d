-- `check_trial::suspected` is safe and ends. Assumes nothing.
use Rattle.std.proofs.Common.{arith}
use Rattle.check_pass.proofs.Records.{room_has}
use Rattle.check_trial.proofs.suspected.Goals as goal

pub slot_count-n-requires : goal.slot_count-n-requires
slot_count-n-requires c = c.requires.size

pub slot_passes-requires : goal.slot_passes-requires
slot_passes-requires c = (room_has (record { size = c.requires.size; many = c.slot_count-n.ensures }) (omega (arith, c.if-n-i.false)), c.requires)
