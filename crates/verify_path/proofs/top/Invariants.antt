-- `verify_path::top` meets its contract: from the hash at step i the steps that are left lead where all lead from the leaf.
-- Assumes nothing.
use Prim.Native.Nat.{◌-◌}
use mathlib.Core.Path.{◌≡◌}
use Rattle.meaning.specs.Checking.{climb}
use Rattle.hash.specs.Hash.{hash_bytes}
use Rattle.nodehash.specs.Node.{leaf_hash, inner_hash}
use Rattle.proofrecords.specs.ProofBytes.{steps_in}
use Rattle.verify_path.specs.Paths.{top_after}
use Rattle.proofrecords.proofs.Lying.{from_step}
use Rattle.verify_path.proofs.top.Given as goal

abbrev pub invariant-loop-i : goal.invariant-loop-i
invariant-loop-i l = climb leaf_hash inner_hash (hash_bytes l.h) (steps_in (l.n - l.i) (from_step l.i l.p)) ≡ top_after l.n l.p
