-- `order_kids::node_before` meets its contract. Assumes nothing.
use native.Mathlib.Omega.{arith}
use mathlib.Core.Path.{◌≡◌, refl, sym, subst}
use mathlib.Core.Bool.{true}
use Rattle.terms.specs.Bits.{Byte, before}
use Rattle.terms.proofs.Lists.{all_of}
use Rattle.layout.specs.Stores.{store_of}
use Rattle.check_pass.specs.Passes.{Passed}
use Rattle.ordered.specs.Ordered.{key_no}
use Rattle.order_kids.proofs.Entries.{told_before}
use Rattle.order_kids.proofs.node_before.Goals as goal

pub returns : goal.returns
returns c =
    let a = c.args in
    subst (λ b. Passed b (before (key_no (store_of a.store.now).slots a.i) (key_no (store_of a.store.now).slots a.j) ≡ true)) (sym c.is_lt.ensures)
    (told_before (all_of Byte a.store.now 0 (λ i _. omega (arith, c.type_inv.store i))) c.requires.0 c.requires.1 refl _ c.node_stands.ensures)
