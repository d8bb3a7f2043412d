-- `changes_top::top_at` meets its contract, by what is found. Assumes nothing.
use native.Mathlib.Omega.{arith}
use mathlib.Core.Path.{sym, subst}
use Rattle.terms.specs.Bits.{Byte}
use Rattle.terms.proofs.Lists.{all_of}
use Rattle.place.specs.Place.{place_of}
use Rattle.layout.specs.Stores.{store_of}
use Rattle.lookup.specs.Lookup.{FoundIn}
use Rattle.changes_top.specs.Tops.{tree_here, TopSays}
use Rattle.changes_top.proofs.Tops.{its_slot, child_top, child_none, child_missing}
use Rattle.changes_top.proofs.top_at.Goals as goal

pub returns-then-version-eq0 : goal.returns-then-version-eq0
returns-then-version-eq0 c =
    let a = c.args in
    let s = a.store.now in
    child_none s c.requires.0.0 (all_of Byte s 0 (λ i _. omega (arith, c.shared_slice_known-1.given i))) a.place a.version c.if-version-eq0.true

pub returns-in_default : goal.returns-in_default
returns-in_default c =
    let a = c.args in
    let s = a.store.now in
    child_missing s c.requires.0.0 (all_of Byte s 0 (λ i _. omega (arith, c.shared_slice_known-1.given i))) a.place a.version
    (subst (FoundIn (store_of s).slots a.version (place_of a.place)) c.in_default.is c.find_near-found.ensures)

pub top_in-requires : goal.top_in-requires
top_in-requires c =
    let a = c.args in
    let s = a.store.now in
    let b = all_of Byte s 0 (λ i _. omega (arith, c.shared_slice_known-1.given i)) in
    let f = subst (FoundIn (store_of s).slots a.version (place_of a.place)) c.in-Some.is c.find_near-found.ensures in
    its_slot s c.requires.0.0 b _ f.1.0 f.0 f.1.1

pub returns : goal.returns
returns c =
    let a = c.args in
    let h = c.requires in
    let s = a.store.now in
    let b = all_of Byte s 0 (λ i _. omega (arith, c.shared_slice_known-1.given i)) in
    let f = subst (FoundIn (store_of s).slots a.version (place_of a.place)) c.in-Some.is c.find_near-found.ensures in
    subst (TopSays s a.place (tree_here s a.place a.version)) (sym c.top_in.ensures)
    (child_top s h.0.0 b _ f.1.0 f.0 f.1.1 a.place h.1 a.version f.1.2 (omega (arith, c.if-version-eq0.false)))
