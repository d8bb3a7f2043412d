-- `rescue_root::newest_by` meets its contract: a root record of the version itself is the newest, else that of the entry before. Assumes nothing.
use native.Mathlib.Omega.{arith}
use mathlib.Core.Path.{sym, ◌∙◌, subst}
use borrow.Author.Tests.{eqb-false}
use lib.ListN.{length}
use Rattle.layout.specs.Stores.{store_of}
use Rattle.ordered.specs.Ordered.{node_key}
use Rattle.order_halves.specs.First.{First}
use Rattle.rescue_root.proofs.Exact.{exact_located, none_own}
use Rattle.rescue_root.proofs.newest_by.Goals as goal

pub newest_root-requires : goal.newest_root-requires
newest_root-requires c = c.requires.0

pub first-k-requires : goal.first-k-requires
first-k-requires c = let p = c.requires in (p.0, p.1.sure (omega (arith, eqb-false _ 0 (sym c.is_empty.ensures ∙ c.if-is_empty.false))), c.top-top.ensures.proper)

pub find_first-found-requires : goal.find_first-found-requires
find_first-found-requires c =
    let p = c.requires in
    (p.0, p.1.sure (omega (arith, eqb-false _ 0 (sym c.is_empty.ensures ∙ c.if-is_empty.false))), c.top-top.ensures.proper, c.first-k.ensures)

pub returns-in-Some : goal.returns-in-Some
returns-in-Some c =
    let a = c.args in
    exact_located (store_of a.source.now).slots a.version c.top-top.ensures.place c.find_first-found.ensures.0 c.in-Some.is

pub newest_before-requires : goal.newest_before-requires
newest_before-requires c =
    let a = c.args in
    let p = c.requires in (
      p.0,
      p.1.sure (omega (arith, eqb-false _ 0 (sym c.is_empty.ensures ∙ c.if-is_empty.false))),
      subst (λ q. First (store_of a.source.now).slots a.order.now (length a.order.now) (node_key a.version q) c.first-k.result) c.top-top.ensures.place c.first-k.ensures,
      none_own (store_of a.source.now).slots a.version c.top-top.ensures.place c.find_first-found.ensures.0 c.in_default.is,
    )
