-- `move_count::child_slot` meets its contract: a guess that is right is what is found. Assumes nothing.
use Rattle.place.specs.Place.{place_of}
use Rattle.move_count.proofs.Nodes.{no_version}
use Rattle.move_count.proofs.child_slot.Goals as goal

pub returns-then-version-eq0 : goal.returns-then-version-eq0
returns-then-version-eq0 c = no_version c.requires.0 c.args.version (place_of c.args.place) c.if-version-eq0.true
