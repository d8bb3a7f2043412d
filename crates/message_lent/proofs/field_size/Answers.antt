-- `message_lent::field_size` meets its contract, by how many bytes the length takes. Assumes nothing.
use Rattle.message_lent.proofs.Lengths.{field_one, field_two, field_three}
use Rattle.message_lent.proofs.field_size.Goals as goal

pub returns-then-n-lt128 : goal.returns-then-n-lt128
returns-then-n-lt128 c = field_one c.args.n c.if-n-lt128.true

pub returns-then-n-lt16384 : goal.returns-then-n-lt16384
returns-then-n-lt16384 c = field_two c.args.n c.if-n-lt128.false c.if-n-lt16384.true

pub returns : goal.returns
returns c = field_three c.args.n c.if-n-lt16384.false c.requires
