-- `changes_top::root_top` meets its contract, by what is found. Assumes nothing.
use native.Mathlib.Omega.{arith}
use mathlib.Core.Path.{sym, subst}
use Rattle.terms.specs.Bits.{Byte}
use Rattle.terms.proofs.Lists.{all_of}
use Rattle.meaning.specs.Store.{root_of, tree_at_version}
use Rattle.layout.specs.Stores.{store_of}
use Rattle.lookup.specs.Lookup.{Located}
use Rattle.changes_top.specs.Tops.{TopSays}
use Rattle.changes_top.proofs.Tops.{its_slot, root_found, root_missing}
use Rattle.changes_top.proofs.root_top.Goals as goal

pub returns-in_default : goal.returns-in_default
returns-in_default c =
    let a = c.args in
    let s = a.store.now in
    root_missing s c.requires.0 (all_of Byte s 0 (λ i _. omega (arith, c.shared_slice_known-1.given i))) a.top a.version
    (subst (Located (store_of s).slots (root_of (store_of s) a.version)) c.in_default.is c.find_root-found.ensures)

pub top_in-requires : goal.top_in-requires
top_in-requires c =
    let a = c.args in
    let s = a.store.now in
    let b = all_of Byte s 0 (λ i _. omega (arith, c.shared_slice_known-1.given i)) in
    let f = subst (Located (store_of s).slots (root_of (store_of s) a.version)) c.in-Some.is c.find_root-found.ensures in
    its_slot s c.requires.0 b _ f.1.0 f.0 f.1.1

pub returns : goal.returns
returns c =
    let a = c.args in
    let h = c.requires in
    let s = a.store.now in
    let b = all_of Byte s 0 (λ i _. omega (arith, c.shared_slice_known-1.given i)) in
    let f = subst (Located (store_of s).slots (root_of (store_of s) a.version)) c.in-Some.is c.find_root-found.ensures in
    subst (TopSays s a.top (tree_at_version (store_of s) a.version)) (sym c.top_in.ensures)
    (root_found s h.0 b _ f.1.0 f.0 f.1.1 a.top h.1 a.version f.1.2)
