-- `slots_put::put_child` meets its contract: version and hash are the fields of the child. Assumes nothing.
use Rattle.hash.proofs.Laws.{hash_whole}
use Rattle.slots.specs.Answer.{child_says}
use Rattle.slots_put.proofs.Writing.{child_put}
use Rattle.slots_put.proofs.put_child.Goals as goal

pub returns : goal.returns
unfolding child_says
returns c =
    let a = c.args in
    child_put a.at (child_says a.c) a.s.now c.requires (hash_whole a.c.hash).0 c.put_u32.ensures c.put_hash.ensures
