-- `apply_ready::root_version` meets its contract, by what is found. Assumes nothing.
use native.Mathlib.Omega.{arith}
use mathlib.Core.Path.{ap, sym, ◌∙◌, subst}
use Rattle.terms.specs.Bits.{Byte}
use Rattle.terms.proofs.Lists.{all_of}
use Rattle.meaning.specs.Store.{root_of}
use Rattle.layout.specs.Stores.{store_of}
use Rattle.lookup.specs.Lookup.{Located}
use Rattle.apply_place.proofs.Changing.{stored_size, slot_within}
use Rattle.apply_ready.specs.Ready.{root_version}
use Rattle.apply_ready.proofs.Ready.{found_version}
use Rattle.apply_ready.proofs.root_version.Goals as goal

pub find_root-found-requires : goal.find_root-found-requires
find_root-found-requires c = stored_size c.requires

pub returns-in_default : goal.returns-in_default
returns-in_default c =
    let a = c.args in
    let s = a.store.now in
    let o = root_of (store_of s) a.version in
    sym (ap root_version (subst (Located (store_of s).slots o) c.in_default.is c.find_root-found.ensures))

pub version_at-requires : goal.version_at-requires
version_at-requires c =
    let a = c.args in
    let s = a.store.now in
    let o = root_of (store_of s) a.version in
    slot_within c.requires c.in-Some.i
    (subst (Located (store_of s).slots o) c.in-Some.is c.find_root-found.ensures).0

pub returns : goal.returns
returns c =
    let a = c.args in
    let s = a.store.now in
    let b = all_of Byte s 0 (λ i _. omega (arith, c.shared_slice_known-1.given i)) in
    let o = root_of (store_of s) a.version in
    c.version_at.ensures
    ∙ found_version c.requires b o c.in-Some.i
    (subst (Located (store_of s).slots o) c.in-Some.is c.find_root-found.ensures)
