-- `apply_guess::guess_all` stays within the store, and ends. Assumes nothing.
use native.Mathlib.Omega.{arith}
use Rattle.apply_place.proofs.Changing.{stored_size}
use Rattle.apply_guess.proofs.Guessing.{room_of_store, room_slot}
use Rattle.apply_guess.proofs.guess_all.Goals as goal

pub slot_count-n-requires : goal.slot_count-n-requires
slot_count-n-requires c = stored_size c.requires

pub version_at-version-requires : goal.version_at-version-requires
version_at-version-requires c = room_slot (room_of_store c.requires c.slot_count-n.ensures) c.loop-i-test.true

pub retired_at-requires : goal.retired_at-requires
retired_at-requires c = room_slot (room_of_store c.requires c.slot_count-n.ensures) c.loop-i-test.true

pub count_at-count-requires : goal.count_at-count-requires
count_at-count-requires c = room_slot (room_of_store c.requires c.slot_count-n.ensures) c.loop-i-test.true

pub slot_of-requires : goal.slot_of-requires
slot_of-requires c = room_slot (room_of_store c.requires c.slot_count-n.ensures) c.loop-i-test.true

pub overflow_cast-i : goal.overflow_cast-i
overflow_cast-i c = omega (arith, (room_of_store c.requires c.slot_count-n.ensures).small, c.loop-i-test.true)
