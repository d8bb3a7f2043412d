-- `check_guess::stands_before` is safe and ends. Assumes nothing.
use native.Mathlib.Omega.{arith}
use Rattle.check_pass.proofs.Records.{room_within}
use Rattle.check_guess.proofs.stands_before.Goals as goal

pub count_at-count-requires : goal.count_at-count-requires
count_at-count-requires c = room_within c.args.store.now c.requires (omega (arith, c.if-n-i.false))

pub slot_of-requires : goal.slot_of-requires
slot_of-requires c = room_within c.args.store.now c.requires (omega (arith, c.if-n-i.false))

pub version_at-version-requires : goal.version_at-version-requires
version_at-version-requires c = room_within c.args.store.now c.requires (omega (arith, c.if-n-i.false))
