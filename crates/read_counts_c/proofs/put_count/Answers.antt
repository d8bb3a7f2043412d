-- `read_counts_c::put_count` meets its contract: two halves fill eight bytes. Assumes nothing.
use Rattle.read_counts_c.proofs.Exported.{count_put}
use Rattle.read_counts_c.proofs.put_count.Goals as goal

pub returns : goal.returns
returns c = count_put c.args.n c.args.count.now _ _ c.requires c.put_u32.ensures c.put_u32-2.ensures
