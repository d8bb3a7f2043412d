-- `order_find::root_guess` reads within the table and the store; nothing is promised of a guess. Assumes nothing.
use native.Mathlib.Omega.{arith}
use mathlib.Core.Path.{sym, ◌∙◌, subst}
use borrow.Author.Tests.{eqb-false}
use Rattle.terms.specs.declared.Form.TheVariants.{Counted as counted}
use Rattle.layout.specs.Stores.{Has}
use Rattle.store.proofs.Slots.{slot_within}
use Rattle.order_halves.proofs.Looked.{entry_has}
use Rattle.order_find.proofs.root_guess.Goals as goal

pub version_at-oldest-requires : goal.version_at-oldest-requires
version_at-oldest-requires c = slot_within (subst (Has counted c.args.store.now) (sym c.wide.ensures.0) (entry_has c.args.store.now c.requires.0 c.requires.1 0 (omega (arith, eqb-false _ 0 (sym c.is_empty.ensures ∙ c.if-is_empty.false)))))
