-- `lookup_root::find_root` meets its contract: no slot passed holds a root that lives at the version. Assumes nothing.
use Rattle.store.proofs.Scans.{Scan}
use Rattle.lookup_root.proofs.Rooting.{Ahead}
use Rattle.lookup_root.proofs.find_root.Given as goal

abbrev pub invariant-loop-j : goal.invariant-loop-j
invariant-loop-j l = Scan l.form l.store (Ahead l.form l.store l.version) l.n l.j
