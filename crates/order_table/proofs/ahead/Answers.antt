-- `order_table::ahead` meets its contract. Assumes nothing.
use native.Mathlib.Omega.{arith}
use mathlib.Core.Path.{refl}
use lib.Dec.{ltb}
use Rattle.terms.specs.Bits.{Byte}
use Rattle.terms.proofs.Lists.{all_of}
use Rattle.order_table.proofs.Passed.{ahead_before, ahead_same}
use Rattle.order_table.proofs.ahead.Goals as goal

pub returns-in-Less : goal.returns-in-Less
returns-in-Less c =
    ahead_before (all_of Byte c.args.store.now 0 (λ i _. omega (arith, c.shared_slice_known-1.given i))) c.requires.0 c.requires.1 refl
    _ c.node_stands-stands.ensures c.in-Less.is

pub returns-in-Equal : goal.returns-in-Equal
returns-in-Equal c =
    let a = c.args in
    ahead_same (all_of Byte c.args.store.now 0 (λ i _. omega (arith, c.shared_slice_known-1.given i))) c.requires.0 c.requires.1 refl
    _ c.node_stands-stands.ensures c.in-Equal.is
    (ltb a.i a.j) refl
