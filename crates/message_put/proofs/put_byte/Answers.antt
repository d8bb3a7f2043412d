-- `message_put::put_byte` meets its contract. Assumes nothing.
use Rattle.message_rules.proofs.Writing.{set_one}
use native.Mathlib.Omega.{arith}
use Rattle.message_put.proofs.put_byte.Goals as goal

pub returns : goal.returns
returns c = let a = c.args in record { bytes_are = set_one a.room.now a.at a.b c.requires; next_is = omega arith }
