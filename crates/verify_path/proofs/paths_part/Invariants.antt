-- `verify_path::paths_part` meets its contract: the paths part exactly if what is left of both below the k topmost steps does. Assumes nothing.
use Prim.Native.Nat.{◌-◌}
use mathlib.Core.Path.{◌≡◌}
use Rattle.meaning.specs.Checking.{paths_part}
use Rattle.proofrecords.specs.Steps.{first_steps}
use Rattle.verify_path.proofs.paths_part.Given as goal

abbrev pub invariant-loop-k : goal.invariant-loop-k
invariant-loop-k l = paths_part (first_steps l.m l.l) (first_steps l.n l.r) ≡ paths_part (first_steps (l.m - l.k) l.l) (first_steps (l.n - l.k) l.r)
