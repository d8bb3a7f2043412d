-- `check_guess::guess_side` is safe and ends. Assumes nothing.
use native.Mathlib.Omega.{arith}
use Rattle.check_pass.proofs.Records.{room_within}
use Rattle.check_guess.proofs.guess_side.Goals as goal

pub kind_at-kind-requires : goal.kind_at-kind-requires
kind_at-kind-requires c = room_within c.args.store.now c.requires.0 (omega (arith, c.if-n-j.false))

pub count_at-count-requires : goal.count_at-count-requires
count_at-count-requires c = room_within c.args.store.now c.requires.0 (omega (arith, c.if-n-j.false))

pub child_version_at-version-requires : goal.child_version_at-version-requires
child_version_at-version-requires c = room_within c.args.store.now c.requires.0 (omega (arith, c.if-n-j.false))

pub slot_of-requires : goal.slot_of-requires
slot_of-requires c = room_within c.args.store.now c.requires.0 (omega (arith, c.if-n-j.false))
