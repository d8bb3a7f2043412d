-- `apply_put::put_answer` meets its contract: three parts fill 40 bytes. Assumes nothing.
use Rattle.apply_put.proofs.Putting.{answer_put}
use Rattle.apply_put.proofs.put_answer.Goals as goal

pub returns : goal.returns
returns c = answer_put c.args.version c.args.count c.args.root c.args.answer.now _ _ _ c.requires c.put_u32.ensures c.put_hash.ensures c.put_u32-2.ensures
