-- `prove_absence::flag` meets its contract, case by case. Assumes nothing.
use mathlib.Core.Path.{ap, sym}
use Rattle.prove_paths.specs.Neighbours.{way_flag, flag_for}
use Rattle.prove_absence.proofs.flag.Goals as goal

pub returns-in-Somebody : goal.returns-in-Somebody
unfolding flag_for
returns-in-Somebody c = ap (λ w. way_flag w c.args.bit) (sym c.in-Somebody.is)

pub returns-in-Nobody : goal.returns-in-Nobody
unfolding flag_for
returns-in-Nobody c = ap (λ w. way_flag w c.args.bit) (sym c.in-Nobody.is)

pub returns-in-Stopped : goal.returns-in-Stopped
unfolding flag_for
returns-in-Stopped c = ap (λ w. way_flag w c.args.bit) (sym c.in-Stopped.is)
