-- `place::key_bit` meets its contract: bit i stands in byte i / 8, at 7 - i % 8 from its low end.
-- Assumes nothing.
use Rattle.place.proofs.Bits.{bit_shifted}
use Rattle.place.proofs.key_bit.Goals as goal

pub returns : goal.returns
returns c = bit_shifted c.args.i c.args.key.now c.requires
