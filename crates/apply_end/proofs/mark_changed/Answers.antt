-- `apply_end::mark_changed` meets its contract, by the change. Assumes nothing.
use Rattle.place.specs.Place.{place_of}
use Rattle.apply_outcome.proofs.Forking.{nothing_marked}
use Rattle.apply_end.proofs.Ending.{ends_none, ends_changed, ends_unchanged}
use borrow.Enum.Refused.{opened}
use Rattle.apply_end.proofs.mark_changed.Goals as goal

pub returns-then-version-eq0 : goal.returns-then-version-eq0
returns-then-version-eq0 c = ends_none c.args.writes c.args.since c.args.version (place_of c.args.place) c.args.change c.if-version-eq0.true (nothing_marked c.args.writes c.args.since c.requires.stored)

pub returns-in_default : goal.returns-in_default
returns-in_default c = ends_changed c.args.writes c.args.since c.args.version (place_of c.args.place) c.args.change (opened c.in_default.in_default-own.keys2) c.if-version-eq0.false c.mark_node.ensures

pub returns : goal.returns
returns c = ends_unchanged c.args.writes c.args.since c.args.version (place_of c.args.place) c.args.change c.in-Unchanged.is (nothing_marked c.args.writes c.args.since c.requires.stored)
