-- `palette::pays` meets its contract. Assumes nothing.
use mathlib.Core.Bool.{false≢true}
use Rattle.palette.proofs.Answering.{without_entries}
use Rattle.palette.proofs.pays.Goals as goal

pub returns-then-index-ne0 : goal.returns-then-index-ne0
returns-then-index-ne0 c = λ e. absurd (false≢true e)

pub returns : goal.returns
returns c = λ e. without_entries c.args.index.now c.if-index-ne0.false
