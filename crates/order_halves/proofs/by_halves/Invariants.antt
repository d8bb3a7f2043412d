-- `order_halves::by_halves` meets its contract: the entries before lo are before the node, those from hi on are not. Assumes nothing.
use Prim.Native.Nat.{◌-◌}
use lib.ListN.{length}
use Rattle.place.specs.Place.{place_of}
use Rattle.layout.specs.Stores.{store_of}
use Rattle.ordered.specs.Ordered.{node_key, Between}
use Rattle.order_halves.proofs.by_halves.Given as goal

abbrev pub invariant-loop-lo : goal.invariant-loop-lo
invariant-loop-lo l = Between (store_of l.store).slots l.order (length l.order) (node_key l.version (place_of l.place)) l.lo l.hi

abbrev pub decreases-loop-lo : goal.decreases-loop-lo
decreases-loop-lo l = l.hi - l.lo
