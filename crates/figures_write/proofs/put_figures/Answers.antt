-- `figures_write::put_figures` meets its contract: four numbers fill 16 bytes. Assumes nothing.
use Rattle.figures_write.proofs.Writing.{figures_put}
use Rattle.figures_write.proofs.put_figures.Goals as goal

pub returns : goal.returns
returns c = figures_put c.args.f c.args.part.now _ _ _ _ c.requires c.put_u32.ensures c.put_u32-2.ensures c.put_u32-3.ensures c.put_u32-4.ensures
