-- `index_search::search` meets its contract: what is left between lo and hi gives what the whole search gives. Assumes nothing.
use Prim.Native.Nat.{◌-◌, ◌≤◌}
use mathlib.Core.Path.{◌≡◌}
use lib.ListN.{length}
use Rattle.indexed.proofs.Halving.{Between}
use Rattle.place.specs.Place.{place_of}
use Rattle.layout.specs.Stores.{store_of}
use Rattle.index_entry.specs.Entries.{look_for}
use Rattle.index_search.proofs.search.Given as goal

abbrev pub invariant-loop-lo : goal.invariant-loop-lo
invariant-loop-lo l = Between (look_for l.root l.version (place_of l.place)) l.table (store_of l.store).slots l.lo l.hi × (l.n ≡ length (store_of l.store).slots) × (l.n ≤ 16384)

abbrev pub decreases-loop-lo : goal.decreases-loop-lo
decreases-loop-lo l = l.hi - l.lo
