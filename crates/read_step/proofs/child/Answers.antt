-- `read_step::child` meets its contract: version 0 is no child, else the child is sought at its version and place. Assumes nothing.
use native.Mathlib.Omega.{arith}
use mathlib.Core.Path.{ap, sym, ◌∙◌}
use Rattle.terms.specs.Bits.{Byte}
use Rattle.terms.proofs.Lists.{all_of}
use Rattle.indexed.specs.Index.{node_by}
use Rattle.place.specs.Place.{place_of}
use Rattle.layout.specs.Stores.{store_of}
use Rattle.read_step.specs.Walk.{kid_in}
use Rattle.read_step.proofs.Seeing.{node_placed, holds_found, child_none, child_nothing, child_spoilt, spoilt_small, child_sees}
use Rattle.read_step.proofs.child.Goals as goal

pub returns-then-version-eq0 : goal.returns-then-version-eq0
returns-then-version-eq0 c =
    let a = c.args in
    let s = a.store.now in
    child_none s a.index.now (place_of a.place) (kid_in a.i s a.right) (sym c.child_version-version.ensures ∙ c.if-version-eq0.true)

pub seen_in-requires : goal.seen_in-requires
seen_in-requires c =
    let s = c.args.store.now in
    let table = c.args.index.now in
    let b = all_of Byte s 0 (λ i _. omega (arith, c.shared_slice_known-1.given i)) in
    holds_found s c.requires.size b c.args.place c.requires.proper
    (node_placed s table c.child_version-version.result c.args.place) c.look_by-sight.ensures c.in-Matches.is

pub overflow_cast-slot : goal.overflow_cast-slot
overflow_cast-slot c =
    let s = c.args.store.now in
    let table = c.args.index.now in
    omega (
      arith,
      spoilt_small s (node_by table (store_of s) c.child_version-version.result (place_of c.args.place))
          c.look_by-sight.ensures c.in-Spoilt.is c.requires.size,
    )

pub returns-in-Matches : goal.returns-in-Matches
returns-in-Matches c =
    let s = c.args.store.now in
    let table = c.args.index.now in
    let b = all_of Byte s 0 (λ i _. omega (arith, c.shared_slice_known-1.given i)) in
    let p = place_of c.args.place in
    child_sees s c.requires.size b c.args.place c.requires.proper
    (node_placed s table c.child_version-version.result c.args.place) c.look_by-sight.ensures c.in-Matches.is
    table (kid_in c.args.i s c.args.right) (ap (λ v. node_by table (store_of s) v p) (sym c.child_version-version.ensures))
    (omega (arith, c.child_version-version.ensures, c.if-version-eq0.false)) c.seen_in.result (c.seen_in.ensures table)

pub returns-in-Nothing : goal.returns-in-Nothing
returns-in-Nothing c =
    let s = c.args.store.now in
    let table = c.args.index.now in
    let p = place_of c.args.place in
    child_nothing s (node_by table (store_of s) c.child_version-version.result p) c.look_by-sight.ensures c.in-Nothing.is table p
    (kid_in c.args.i s c.args.right) (ap (λ v. node_by table (store_of s) v p) (sym c.child_version-version.ensures))
    (omega (arith, c.child_version-version.ensures, c.if-version-eq0.false))

pub returns-in-Spoilt : goal.returns-in-Spoilt
returns-in-Spoilt c =
    let s = c.args.store.now in
    let table = c.args.index.now in
    let p = place_of c.args.place in
    child_spoilt s (node_by table (store_of s) c.child_version-version.result p) c.look_by-sight.ensures c.in-Spoilt.is table p
    (kid_in c.args.i s c.args.right) (ap (λ v. node_by table (store_of s) v p) (sym c.child_version-version.ensures))
    (omega (arith, c.child_version-version.ensures, c.if-version-eq0.false))
