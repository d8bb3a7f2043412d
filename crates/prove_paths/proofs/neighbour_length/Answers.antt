-- `prove_paths::neighbour_length` meets its contract, case by case. Assumes nothing.
use mathlib.Core.Path.{ap, sym}
use Rattle.prove_paths.specs.Neighbours.{way_room, room_for}
use Rattle.prove_paths.proofs.neighbour_length.Goals as goal

pub returns-in-Somebody : goal.returns-in-Somebody
unfolding room_for
returns-in-Somebody c = ap (λ w. way_room w c.args.n.path) (sym c.in-Somebody.is)

pub returns-in-Nobody : goal.returns-in-Nobody
unfolding room_for
returns-in-Nobody c = ap (λ w. way_room w c.args.n.path) (sym c.in-Nobody.is)

pub returns-in-Stopped : goal.returns-in-Stopped
unfolding room_for
returns-in-Stopped c = ap (λ w. way_room w c.args.n.path) (sym c.in-Stopped.is)
