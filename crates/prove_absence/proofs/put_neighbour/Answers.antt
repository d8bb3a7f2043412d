-- `prove_absence::put_neighbour` meets its contract: a presence proof, or nothing in an empty part. Assumes nothing.
use mathlib.Core.Path.{refl, ap, sym, ◌∙◌}
use Rattle.proofrecords.specs.ProofBytes.{neighbour_bytes}
use Rattle.prove_paths.specs.Neighbours.{way_at, found, neighbour_at, room_for}
use Rattle.prove_paths.specs.declared.Way.TheVariants.{Stopped, Nobody}
use Rattle.prove_absence.proofs.Absences.{somebody_in, nobody_put}
use Rattle.prove_absence.proofs.put_neighbour.Goals as goal

pub put_presence-requires : goal.put_presence-requires
unfolding room_for
put_presence-requires c = somebody_in c.args.store.now c.args.part.now c.args.n.path c.in-Somebody.is c.requires.0 c.requires.1

pub returns-in-Somebody : goal.returns-in-Somebody
unfolding neighbour_at
returns-in-Somebody c = let a = c.args in c.put_presence.ensures ∙ ap (λ w. neighbour_bytes (found (way_at a.store.now w a.n.path))) (sym c.in-Somebody.is)

pub returns-in-Nobody : goal.returns-in-Nobody
unfolding neighbour_at room_for
returns-in-Nobody c = nobody_put c.args.store.now c.args.part.now c.args.n.path Nobody c.in-Nobody.is refl refl c.requires.1

pub returns-in-Stopped : goal.returns-in-Stopped
unfolding neighbour_at room_for
returns-in-Stopped c = nobody_put c.args.store.now c.args.part.now c.args.n.path (Stopped _) c.in-Stopped.is refl refl c.requires.1
