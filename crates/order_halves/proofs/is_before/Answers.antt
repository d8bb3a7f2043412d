-- `order_halves::is_before` meets its contract: a look at the entry. Assumes nothing.
use native.Mathlib.Omega.{arith}
use mathlib.Core.Path.{sym, ◌∙◌, subst}
use Rattle.terms.specs.declared.Form.TheVariants.{Counted as counted}
use Rattle.terms.specs.Bits.{Byte}
use Rattle.terms.proofs.Lists.{all_of}
use Rattle.layout.specs.Stores.{Has}
use Rattle.order_halves.proofs.Looked.{entry_has, tells_before}
use borrow.Author.Rules.{rules}
use Rattle.order_halves.proofs.is_before.Goals as goal

pub compared-requires : goal.compared-requires
compared-requires c = (subst (Has counted c.args.store.now) (sym c.wide.ensures.0) (entry_has c.args.store.now c.requires.0 c.requires.1 c.args.k c.requires.3), search rules)

pub returns : goal.returns
returns c =
    let a = c.args in
    c.is_lt.ensures ∙ tells_before a.store.now c.requires.0 c.requires.1 (all_of Byte a.store.now 0 (λ i _. omega (arith, c.type_inv.store i))) a.version a.place c.requires.2
    a.k c.requires.3 c.wide.ensures.0 _ c.compared.ensures
