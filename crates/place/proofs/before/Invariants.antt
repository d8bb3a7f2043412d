-- `place::before` meets its contract: at index i both strings agree so far, so what is left of them decides. Assumes nothing.
use Prim.Native.Nat.{◌≤◌}
use mathlib.Core.Path.{◌≡◌}
use lib.ListN.{length}
use Rattle.terms.specs.Bits.{before}
use Rattle.place.proofs.Strings.{rest_before}
use Rattle.place.proofs.before.Given as goal

abbrev pub invariant-loop-i : goal.invariant-loop-i
invariant-loop-i l = (l.i ≤ length l.x) × (before l.x l.y ≡ rest_before l.x l.y l.i)
