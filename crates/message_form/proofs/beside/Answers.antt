-- `message_form::beside` meets its contract: the field, where its tag stands, and the existence proof in it. Assumes nothing.
use native.Mathlib.Nat.{sub-zero}
use mathlib.Core.Path.{◌≡◌, subst}
use Rattle.std.specs.Prelude.{None}
use lib.ListN.{take}
use lib.Seq.{length-take-le}
use Rattle.hash.proofs.Digits.{all_bytes}
use Rattle.message_fields.proofs.Fields.{stands_as}
use Rattle.message_leaf.specs.Shown.{Shows}
use Rattle.message_leaf.proofs.Heads.{shows_as}
use Rattle.message_form.proofs.Besides.{neighbours_none, past_end, neighbours_no_field, neighbours_no_proof, neighbours_there}
use native.Mathlib.Omega.{arith}
use Rattle.message_form.proofs.beside.Goals as goal

pub returns-then-x-at : goal.returns-then-x-at
returns-then-x-at c = let a = c.args in neighbours_none c.requires.0 (past_end a.n a.x.now a.at (omega arith))

pub returns-then-x-at-2 : goal.returns-then-x-at-2
returns-then-x-at-2 c = neighbours_none c.requires.0 c.if-x-at-2.true

pub returns-in_err-part : goal.returns-in_err-part
returns-in_err-part c =
    let gone : c.from_residual.result ≡ None = grind arith in
    rw gone (neighbours_no_field c.if-x-at-2.false (stands_as c.in_err-part.was c.field.ensures))

pub slice_bounds-existence-end : goal.slice_bounds-existence-end
slice_bounds-existence-end c = omega (arith, (c.field.ensures.inside c.in_ok-part.part c.in_ok-part.was).2)

pub existence-requires : goal.existence-requires
existence-requires c =
    let i = c.field.ensures.inside c.in_ok-part.part c.in_ok-part.was in
    omega (arith, length-take-le c.in_ok-part.part.to c.args.x.now i.2, i.1)

pub returns-in_err-shown : goal.returns-in_err-shown
returns-in_err-shown c =
    let p = c.in_ok-part.part in
    let gone : c.from_residual-in_err-shown.result ≡ None = grind arith in
    rw gone
    (neighbours_no_proof c.if-x-at-2.false (stands_as c.in_ok-part.was c.field.ensures)
    (shows_as c.in_err-shown.was (subst (λ k. Shows (take k c.args.x.now) p.from c.existence.result) (sub-zero p.to) c.existence.ensures)))

pub returns : goal.returns
returns c =
    let p = c.in_ok-part.part in
    neighbours_there c.if-x-at-2.false (stands_as c.in_ok-part.was c.field.ensures)
    (shows_as c.in_ok-shown.was (subst (λ k. Shows (take k c.args.x.now) p.from c.existence.result) (sub-zero p.to) c.existence.ensures)) c.requires.1
    (all_bytes c.args.x.now (λ i. omega (arith, c.shared_slice_known-1.given i)))
