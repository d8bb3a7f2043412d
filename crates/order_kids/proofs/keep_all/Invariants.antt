-- `order_kids::keep_all` meets its contract: each entry is looked at. Assumes nothing.
use Prim.Native.Nat.{ℕ, ◌<◌}
use lib.ListN.{get_or}
use Rattle.layout.specs.Stores.{store_of}
use Rattle.ordered.specs.Ordered.{LeadsIf}
use Rattle.order_kids.proofs.keep_all.Given as goal

abbrev pub invariant-loop-kid : goal.invariant-loop-kid
invariant-loop-kid l = (j : ℕ) → j < l.kid-index → LeadsIf (store_of l.store).slots (get_or l.kids j 0)
