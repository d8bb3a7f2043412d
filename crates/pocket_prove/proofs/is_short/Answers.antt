-- `pocket_prove::is_short` meets its contract, by how the search ended. Assumes nothing.
use mathlib.Core.Path.{ap, sym}
use Rattle.pocket_prove.specs.Parts.{way_short}
use Rattle.pocket_prove.proofs.is_short.Goals as goal

pub returns-in-Somebody : goal.returns-in-Somebody
returns-in-Somebody c = ap (λ w. way_short w c.args.n.path) (sym c.in-Somebody.is)

pub returns-in-Nobody : goal.returns-in-Nobody
returns-in-Nobody c = ap (λ w. way_short w c.args.n.path) (sym c.in-Nobody.is)

pub returns-in-Stopped : goal.returns-in-Stopped
returns-in-Stopped c = ap (λ w. way_short w c.args.n.path) (sym c.in-Stopped.is)
