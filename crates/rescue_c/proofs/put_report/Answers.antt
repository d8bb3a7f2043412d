-- `rescue_c::put_report` meets its contract: four numbers fill 16 bytes. Assumes nothing.
use Rattle.rescue_c.proofs.Exporting.{report_put}
use Rattle.rescue_c.proofs.put_report.Goals as goal

pub returns : goal.returns
returns c = report_put c.args.first c.args.counts c.args.answer.now _ _ _ _ c.requires c.put_u32.ensures c.put_u32-2.ensures c.put_u32-3.ensures c.put_u32-4.ensures
