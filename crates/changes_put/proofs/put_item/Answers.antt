-- `changes_put::put_item` meets its contract: the fields fill the 72 bytes. Assumes nothing.
use Rattle.changes_put.proofs.Putting.{item_put}
use Rattle.changes_put.proofs.put_item.Goals as goal

pub returns : goal.returns
returns c =
    let a = c.args in
    item_put a.kind a.part.now a.grant.now c.requires.0 c.requires.1 c.put_u32.ensures c.put_u16.ensures
    c.put_u16-2.ensures c.copy.ensures
