-- `check_ahead::taken` meets its contract: a link that is wanted fits the store. Assumes nothing.
use native.Mathlib.Omega.{arith}
use Rattle.check_ahead.proofs.Waiting.{room_small}
use Rattle.check_ahead.proofs.taken.Goals as goal

pub overflow_cast-links : goal.overflow_cast-links
overflow_cast-links c = omega (arith, c.requires.1, room_small c.requires.0)

pub overflow_add-links : goal.overflow_add-links
overflow_add-links c = omega (arith, c.requires.1, room_small c.requires.0)
