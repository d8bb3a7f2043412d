-- `figures::put_totals` meets its contract: two numbers fill 8 bytes. Assumes nothing.
use Rattle.figures.proofs.Exported.{totals_put}
use Rattle.figures.proofs.put_totals.Goals as goal

pub returns : goal.returns
returns c = totals_put c.args.distinct c.args.records c.args.totals.now _ _ c.requires c.put_u32.ensures c.put_u32-2.ensures
