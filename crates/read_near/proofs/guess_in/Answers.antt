-- `read_near::guess_in` meets its contract: a position within the list is read, one beyond it is not. Assumes nothing.
use native.Mathlib.Omega.{arith}
use mathlib.Core.Path.{sym}
use lib.ListN.{get_or-eq_default}
use Rattle.read_near.proofs.guess_in.Goals as goal

pub returns-then-kids-k : goal.returns-then-kids-k
returns-then-kids-k c = let a = c.args in sym (get_or-eq_default a.kids.now 0 {n = a.k} c.if-kids-k.true)

pub overflow_cast-result : goal.overflow_cast-result
overflow_cast-result c = let a = c.args in omega (arith, c.shared_slice_known-1.given a.k)
