-- `check_ahead::hash_ahead` meets its contract: what was known stays known, eight links after eight. Assumes nothing.
use native.Mathlib.Omega.{arith}
use Rattle.check_ahead.proofs.Waiting.{room_small, first_slots, first_links}
use Rattle.check_ahead.proofs.hash_ahead.Goals as goal

pub slot_count-n-requires : goal.slot_count-n-requires
slot_count-n-requires c = c.requires.0

pub loop-w-init : goal.loop-w-init
loop-w-init c =
    record {
      room = record { size = c.requires.0; many = c.slot_count-n.ensures };
      known = c.requires.1;
      fit = first_slots c.args.store.now c.requires.0;
      tied = first_links c.args.store.now c.requires.0;
    }

pub overflow_mul-n : goal.overflow_mul-n
overflow_mul-n c = omega (arith, room_small c.loop-w.invariant.room)
