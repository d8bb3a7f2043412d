-- `message_form::says` meets its contract, by the first byte. Assumes nothing.
use mathlib.Core.Path.{◌≡◌, refl}
use Rattle.std.specs.Prelude.{None}
use Rattle.hash.proofs.Digits.{all_bytes}
use Rattle.message_leaf.proofs.Heads.{shows_as}
use Rattle.message_form.proofs.Sayings.{alone_as, absents_as, says_nothing, no_presence, presence_off, presence_said, no_absence, absence_off, absence_said}
use native.Mathlib.Omega.{arith}
use Rattle.message_form.proofs.says.Goals as goal

pub returns-then-m-eq0 : goal.returns-then-m-eq0
returns-then-m-eq0 c = says_nothing c.args.m.now c.if-m-eq0.true

pub returns-in_err-from : goal.returns-in_err-from
returns-in_err-from c =
    let gone : c.from_residual.result ≡ None = grind arith in
    rw gone (no_presence c.if-m-eq10.true (alone_as c.in_err-from.was c.alone.ensures))

pub existence-requires : goal.existence-requires
existence-requires c =
    let i = ((c.alone.ensures.stands c.in_ok-from.from c.in_ok-from.was).inside _ refl) in omega (arith, i.1, i.2)

pub returns-in_err-shown : goal.returns-in_err-shown
returns-in_err-shown c =
    let gone : c.from_residual-in_err-shown.result ≡ None = grind arith in
    rw gone (presence_off c.if-m-eq10.true (alone_as c.in_ok-from.was c.alone.ensures) (shows_as c.in_err-shown.was c.existence.ensures))

pub returns-then-m-eq10 : goal.returns-then-m-eq10
returns-then-m-eq10 c =
    presence_said c.if-m-eq10.true (alone_as c.in_ok-from.was c.alone.ensures) (all_bytes c.args.m.now (λ i. omega (arith, c.shared_slice_known-1.given i)))
    (shows_as c.in_ok-shown.was c.existence.ensures)

pub returns-in_err-from-2 : goal.returns-in_err-from-2
returns-in_err-from-2 c =
    let gone : c.from_residual-in_err-from-2.result ≡ None = grind arith in
    rw gone (no_absence c.if-m-eq10.false (alone_as c.in_err-from-2.was c.alone-2.ensures))

pub nonexistence-requires : goal.nonexistence-requires
nonexistence-requires c =
    let i = ((c.alone-2.ensures.stands c.in_ok-from-2.from c.in_ok-from-2.was).inside _ refl) in omega (arith, i.1, i.2)

pub returns-in_err-absent : goal.returns-in_err-absent
returns-in_err-absent c =
    let gone : c.from_residual-in_err-absent.result ≡ None = grind arith in
    rw gone (absence_off c.if-m-eq10.false (alone_as c.in_ok-from-2.was c.alone-2.ensures) (absents_as c.in_err-absent.was c.nonexistence.ensures))

pub returns : goal.returns
returns c =
    absence_said c.if-m-eq10.false (alone_as c.in_ok-from-2.was c.alone-2.ensures) (all_bytes c.args.m.now (λ i. omega (arith, c.shared_slice_known-1.given i)))
    (absents_as c.in_ok-absent.was c.nonexistence.ensures)
