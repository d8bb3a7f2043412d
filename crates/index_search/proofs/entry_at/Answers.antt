-- `index_search::entry_at` meets its contract: a position within the table is read, one beyond it is not. Assumes nothing.
use native.Mathlib.Omega.{arith}
use mathlib.Core.Path.{sym}
use lib.ListN.{get_or-eq_default}
use Rattle.index_search.proofs.Searching.{any_default}
use Rattle.index_search.proofs.entry_at.Goals as goal

pub returns-then-table-k : goal.returns-then-table-k
returns-then-table-k c =
    let a = c.args in
    sym (get_or-eq_default a.table.now a.n {n = a.k} c.if-table-k.true)

pub overflow_cast-result : goal.overflow_cast-result
overflow_cast-result c = let a = c.args in omega (arith, c.shared_slice_known-1.given a.k)

pub returns : goal.returns
returns c =
    let a = c.args in
    any_default a.table.now a.k 0 a.n (omega (arith, c.if-table-k.false))
