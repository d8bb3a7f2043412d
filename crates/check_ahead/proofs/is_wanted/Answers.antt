-- `check_ahead::is_wanted` meets its contract. Assumes nothing.
use lib.ListN.{get_or}
use lib.Dec.{eqb}
use Rattle.check_ahead.proofs.Waiting.{passes, room_small}
use native.Mathlib.Omega.{arith}
use Rattle.store.proofs.Slots.{slot_within}
use Rattle.check_pass.proofs.Records.{room_has}
use Rattle.check_ahead.proofs.is_wanted.Goals as goal

pub kind_at-requires : goal.kind_at-requires
kind_at-requires c = slot_within (room_has c.requires.0 (omega (arith, c.requires.1)))

pub child_version_at-requires : goal.child_version_at-requires
child_version_at-requires c = slot_within (room_has c.requires.0 (omega (arith, c.requires.1)))

pub offset_bounds-known-c : goal.offset_bounds-known-c
offset_bounds-known-c c = omega (arith, room_small c.requires.0, c.if-n-c.false)

pub bounds-known-c : goal.bounds-known-c
bounds-known-c c = omega (arith, room_small c.requires.0, c.if-n-c.false)

pub returns : goal.returns
returns c = passes (eqb (get_or c.args.known.now c.args.c 0) 0) c.if-n-c.false
