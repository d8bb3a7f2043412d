-- `order_find::find_first` meets its contract: what `find` finds. Assumes nothing.
use native.Mathlib.Omega.{arith}
use mathlib.Core.Path.{sym, subst}
use Rattle.terms.specs.declared.Form.TheVariants.{Counted as counted}
use Rattle.terms.specs.Bits.{Byte}
use Rattle.terms.proofs.Lists.{all_of}
use Rattle.place.specs.Place.{place_of}
use Rattle.layout.specs.Stores.{Has}
use Rattle.order_halves.proofs.Looked.{entry_has}
use Rattle.order_find.proofs.Found.{found_here, none_less, none_greater, none_left}
use borrow.Author.Rules.{rules}
use Rattle.order_find.proofs.find_first.Goals as goal

pub returns-then-order-k : goal.returns-then-order-k
returns-then-order-k c =
    let a = c.args in
    none_left a.store.now c.requires.0 c.requires.1 a.version (place_of a.place) a.k (omega (arith, c.if-order-k.true)) c.requires.3

pub compared-stands-requires : goal.compared-stands-requires
compared-stands-requires c = (
  subst (Has counted c.args.store.now) (sym c.wide-i.ensures.0)
      (entry_has c.args.store.now c.requires.0 c.requires.1 c.args.k (omega (arith, c.if-order-k.false))),
  search rules,
)

pub returns-in-Less : goal.returns-in-Less
returns-in-Less c =
    let a = c.args in
    none_less a.store.now c.requires.0 c.requires.1 (all_of Byte a.store.now 0 (λ i _. omega (arith, c.shared_slice_known-1.given i))) a.version a.place c.requires.2
    a.k (omega (arith, c.if-order-k.false)) c.wide-i.ensures.0 _ c.compared-stands.ensures c.requires.3 c.in-Less.is

pub returns-in-Greater : goal.returns-in-Greater
returns-in-Greater c =
    let a = c.args in
    none_greater a.store.now c.requires.0 c.requires.1 (all_of Byte a.store.now 0 (λ i _. omega (arith, c.shared_slice_known-1.given i))) a.version a.place c.requires.2
    a.k (omega (arith, c.if-order-k.false)) c.wide-i.ensures.0 _ c.compared-stands.ensures c.requires.3 c.in-Greater.is

pub returns-in-Equal : goal.returns-in-Equal
returns-in-Equal c =
    let a = c.args in
    found_here a.store.now c.requires.0 c.requires.1 (all_of Byte a.store.now 0 (λ i _. omega (arith, c.shared_slice_known-1.given i))) a.version a.place c.requires.2
    a.k (omega (arith, c.if-order-k.false)) c.wide-i.ensures.0 _ c.compared-stands.ensures c.requires.3 c.in-Equal.is
