-- `rescue_look::lowest` meets its contract. Assumes nothing.
use native.Mathlib.Omega.{arith}
use mathlib.Core.Path.{sym, ◌∙◌}
use borrow.Author.Tests.{eqb-false}
use Rattle.place.specs.Place.{place_of}
use Rattle.layout.specs.Stores.{store_of}
use Rattle.rescue_look.proofs.Looking.{as_lowest}
use Rattle.rescue_look.proofs.lowest.Goals as goal

pub scanned-requires : goal.scanned-requires
scanned-requires c = let p = c.requires in (p.0, p.1)

pub returns-then-is_empty : goal.returns-then-is_empty
returns-then-is_empty c = c.scanned.ensures

pub scanned-requires-then-version-eq0 : goal.scanned-requires-then-version-eq0
scanned-requires-then-version-eq0 c = let p = c.requires in (p.0, p.1)

pub returns-then-version-eq0 : goal.returns-then-version-eq0
returns-then-version-eq0 c = c.scanned-then-version-eq0.ensures

pub find_by-requires : goal.find_by-requires
find_by-requires c = let p = c.requires in (p.0, p.2.sure (omega (arith, eqb-false _ 0 (sym c.is_empty.ensures ∙ c.if-is_empty.false))), p.1)

pub returns : goal.returns
returns c =
    let a = c.args in
    as_lowest (store_of a.source.now).slots a.version (place_of a.place) c.find_by.result c.find_by.ensures.0 c.find_by.ensures.1
