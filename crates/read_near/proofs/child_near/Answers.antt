-- `read_near::child_near` meets its contract: a guess that holds the child is what is found of it, else the child is sought. Assumes nothing.
use Prim.Native.Nat.{◌-◌}
use native.Mathlib.Omega.{arith}
use mathlib.Core.Path.{refl, ap, sym, ◌∙◌, subst}
use borrow.Author.Tests.{not-false}
use Rattle.terms.specs.Bits.{Byte}
use Rattle.terms.proofs.Lists.{all_of}
use Rattle.indexed.specs.Index.{node_by}
use Rattle.place.specs.Place.{place_of}
use Rattle.layout.specs.Stores.{store_of}
use Rattle.layout.proofs.Headers.{size_says}
use Rattle.guess.specs.Guess.{NodeAt}
use Rattle.read_step.specs.Walk.{kid_in}
use Rattle.read_step.proofs.Seeing.{node_placed, holds_found, child_none, child_sees}
use Rattle.read_near.proofs.Near.{near_sighted}
use Rattle.read_near.proofs.child_near.Goals as goal

pub returns-then-version-eq0 : goal.returns-then-version-eq0
returns-then-version-eq0 c =
    let a = c.args in
    let s = a.store.now in
    child_none s a.index.now (place_of a.place) (kid_in a.i s a.right) (sym c.child_version-version.ensures ∙ c.if-version-eq0.true)

pub guess_at-requires : goal.guess_at-requires
guess_at-requires c = let w = c.requires.0 in omega (arith, w.inside, size_says _ _ w.size)

pub seen_in-requires : goal.seen_in-requires
seen_in-requires c =
    let s = c.args.store.now in
    let b = all_of Byte s 0 (λ i _. omega (arith, c.shared_slice_known-1.given i)) in
    let table = c.args.index.now in
    let v = c.child_version-version.result in
    let sighted = near_sighted s table c.args.kids.now c.requires.1 c.guess_at.result (omega (arith, c.guess_at.ensures)) c.guess_in-guess.ensures (omega (arith, c.if-guess-eq0.false)) refl v (place_of c.args.place) (subst (NodeAt s (c.guess_in-guess.result - 1) v (place_of c.args.place)) c.if-not-holds.false c.holds.ensures) in
    holds_found s c.requires.0.size b c.args.place c.requires.0.proper (node_placed s table v c.args.place) sighted refl

pub returns : goal.returns
returns c =
    let s = c.args.store.now in
    let b = all_of Byte s 0 (λ i _. omega (arith, c.shared_slice_known-1.given i)) in
    let table = c.args.index.now in
    let v = c.child_version-version.result in
    let p = place_of c.args.place in
    let sighted = near_sighted s table c.args.kids.now c.requires.1 c.guess_at.result (omega (arith, c.guess_at.ensures)) c.guess_in-guess.ensures (omega (arith, c.if-guess-eq0.false)) refl v p (subst (NodeAt s (c.guess_in-guess.result - 1) v p) c.if-not-holds.false c.holds.ensures) in
    child_sees s c.requires.0.size b c.args.place c.requires.0.proper (node_placed s table v c.args.place) sighted refl
    table (kid_in c.args.i s c.args.right) (ap (λ w. node_by table (store_of s) w p) (sym c.child_version-version.ensures))
    (omega (arith, c.child_version-version.ensures, c.if-version-eq0.false)) c.seen_in.result (c.seen_in.ensures table)
