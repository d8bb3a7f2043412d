-- After i turns the state is the hash value H(i): a block that the message fills is a block of the padded message.
-- Assumes nothing.
use Prim.Native.Nat.{◌/◌, ◌≤◌}
use mathlib.Core.Path.{◌≡◌}
use lib.ListN.{length}
use Rattle.sha256.specs.Sha256.{hash_value, padded}
use Rattle.digest.proofs.whole_blocks.Given as goal

abbrev pub invariant-loop-i : goal.invariant-loop-i
invariant-loop-i l = (l.i ≤ length l.b / 64) × (l.s ≡ hash_value (padded l.b) l.i)
