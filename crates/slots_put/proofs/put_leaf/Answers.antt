-- `slots_put::put_leaf` meets its contract: head, grant and zero bytes fill the slot. Assumes nothing.
use Rattle.slots_put.proofs.Writing.{leaf_put}
use Rattle.slots_put.proofs.put_leaf.Goals as goal

pub returns : goal.returns
returns c =
    let a = c.args in
    λ f l. leaf_put f _ a.version a.retired a.grant.now a.s.now l c.requires.2 c.put_head.ensures c.copy.ensures c.clear.ensures
