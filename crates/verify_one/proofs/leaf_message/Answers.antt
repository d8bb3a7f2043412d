-- `verify_one::leaf_message` meets its contract. The key and the value are two hashes. Assumes nothing.
use Rattle.verify_one.proofs.Laws.{leaf_of_lem}
use Rattle.verify_one.proofs.leaf_message.Goals as goal

pub returns : goal.returns
returns c = leaf_of_lem c.args.x.now _ _ c.hash_at.ensures.result_value c.hash_at-2.ensures.result_value
