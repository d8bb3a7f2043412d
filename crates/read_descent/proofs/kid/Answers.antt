-- `read_descent::kid` meets its contract: version 0 is no child, else the child is sought at its version and place. Assumes nothing.
use native.Mathlib.Omega.{arith}
use mathlib.Core.Path.{ap, sym, ◌∙◌}
use Rattle.terms.specs.Bits.{Byte}
use Rattle.terms.proofs.Lists.{all_of}
use Rattle.indexed.specs.Index.{node_by}
use Rattle.place.specs.Place.{place_of}
use Rattle.layout.specs.Stores.{store_of}
use Rattle.read_step.specs.Walk.{kid_in}
use Rattle.read_step.proofs.Seeing.{none_sighted, spoilt_sighted, spoilt_small}
use Rattle.read_descent.proofs.Descending.{step_missing, step_lost, step_spoilt, step_at_lem}
use Rattle.read_descent.proofs.kid.Goals as goal

pub returns-then-version-eq0 : goal.returns-then-version-eq0
returns-then-version-eq0 c =
    let s = c.args.store.now in
    let p = c.args.place in
    let k = kid_in c.args.i s c.args.right in
    step_missing s c.args.index.now p k (sym c.child_version-version.ensures ∙ c.if-version-eq0.true)

pub overflow_cast-slot : goal.overflow_cast-slot
overflow_cast-slot c =
    let s = c.args.store.now in
    let p = c.args.place in
    let k = kid_in c.args.i s c.args.right in
    omega (arith, spoilt_small s (node_by c.args.index.now (store_of s) c.child_version-version.result (place_of p)) c.look_by-sight.ensures c.in-Spoilt.is c.requires.size)

pub returns-in-Matches : goal.returns-in-Matches
returns-in-Matches c =
    let s = c.args.store.now in
    let p = c.args.place in
    let k = kid_in c.args.i s c.args.right in
    let b = all_of Byte s 0 (λ i _. omega (arith, c.shared_slice_known-1.given i)) in
    step_at_lem s c.args.index.now p k (λ z. c.if-version-eq0.false (c.child_version-version.ensures ∙ z)) c.requires.size b c.requires.proper c.child_version-version.ensures c.look_by-sight.ensures _ c.in-Matches.is

pub returns-in-Nothing : goal.returns-in-Nothing
returns-in-Nothing c =
    let s = c.args.store.now in
    let p = c.args.place in
    let k = kid_in c.args.i s c.args.right in
    step_lost s c.args.index.now p k (λ z. c.if-version-eq0.false (c.child_version-version.ensures ∙ z)) _
    (ap (λ v. node_by c.args.index.now (store_of s) v (place_of p)) (sym c.child_version-version.ensures) ∙ none_sighted s (node_by c.args.index.now (store_of s) c.child_version-version.result (place_of p)) c.look_by-sight.ensures c.in-Nothing.is) c.refusal.ensures

pub returns-in-Spoilt : goal.returns-in-Spoilt
returns-in-Spoilt c =
    let s = c.args.store.now in
    let p = c.args.place in
    let k = kid_in c.args.i s c.args.right in
    step_spoilt s c.args.index.now p k (λ z. c.if-version-eq0.false (c.child_version-version.ensures ∙ z)) _ _
    (ap (λ v. node_by c.args.index.now (store_of s) v (place_of p)) (sym c.child_version-version.ensures) ∙ spoilt_sighted s (node_by c.args.index.now (store_of s) c.child_version-version.result (place_of p)) c.look_by-sight.ensures c.in-Spoilt.is) c.refusal-in-Spoilt.ensures
