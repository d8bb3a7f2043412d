-- `check_store::slots_pass` meets its contract: by the passes, or by the exact test of a suspect. Assumes nothing.
use mathlib.Core.Path.{sym}
use Rattle.check_quick.proofs.Fine.{sure_is}
use Rattle.check_store.proofs.slots_pass.Goals as goal

pub returns-in-None : goal.returns-in-None
returns-in-None c = sym (sure_is c.in-None.is c.quick.ensures)
