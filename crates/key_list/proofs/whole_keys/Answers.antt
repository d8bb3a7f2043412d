-- `key_list::whole_keys` meets its contract. Assumes nothing.
use Rattle.palette_rules.proofs.Keys.{torn, counted}
use Rattle.key_list.proofs.whole_keys.Goals as goal

pub returns-then-keys-ne0 : goal.returns-then-keys-ne0
returns-then-keys-ne0 c = torn _ c.if-keys-ne0.true

pub returns : goal.returns
returns c = counted _ c.if-keys-ne0.false
