-- `check_roots::roots_apart` meets its contract: the slots before j pass. Assumes nothing.
use mathlib.Core.Bool.{true}
use Rattle.local.specs.Test.{by_record}
use Rattle.layout.specs.Stores.{store_in}
use Rattle.check_kin.specs.Kin.{clear_of}
use Rattle.check_roots.proofs.Scanning.{Passed}
use Rattle.check_roots.proofs.roots_apart.Given as goal

abbrev pub invariant-loop-j : goal.invariant-loop-j
invariant-loop-j l = Passed l.form l.store (by_record true (clear_of (store_in l.form l.store) l.version l.ends)) l.n l.j
