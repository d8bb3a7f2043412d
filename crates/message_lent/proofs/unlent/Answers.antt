-- `message_lent::unlent` meets its contract: neither has a byte. Assumes nothing.
use Rattle.message_lent.proofs.Lengths.{lent_key, lent_value}
use Rattle.message_lent.proofs.unlent.Goals as goal

pub returns-then-key-ne0 : goal.returns-then-key-ne0
returns-then-key-ne0 c = let a = c.args in lent_key a.key.now a.value.now c.if-key-ne0.true

pub returns : goal.returns
returns c = let a = c.args in lent_value a.key.now a.value.now c.if-key-ne0.false
