-- `message_form::nonexistence` meets its contract: the key, then the neighbours. Assumes nothing.
use mathlib.Core.Path.{◌≡◌, sym, ◌∙◌}
use Rattle.std.specs.Prelude.{None}
use Rattle.hash.proofs.Digits.{all_bytes}
use Rattle.message_fields.proofs.Fields.{stands_as}
use Rattle.message_leaf.proofs.Heads.{length_right_is}
use Rattle.message_form.proofs.Sayings.{absents_none, no_key, key_wrong, absents_there}
use native.Mathlib.Omega.{arith}
use Rattle.message_form.proofs.nonexistence.Goals as goal

pub returns-in_err-key : goal.returns-in_err-key
returns-in_err-key c =
    let gone : c.from_residual.result ≡ None = grind arith in
    rw gone (absents_none (no_key (stands_as c.in_err-key.was c.field.ensures)))

pub length_right-requires : goal.length_right-requires
length_right-requires c = (c.field.ensures.inside c.in_ok-key.key c.in_ok-key.was).1

pub returns-then-not-length_right : goal.returns-then-not-length_right
returns-then-not-length_right c =
    let k = c.in_ok-key.key in
    let i = c.field.ensures.inside k c.in_ok-key.was in
    absents_none (key_wrong (stands_as c.in_ok-key.was c.field.ensures) (length_right_is 256 k.from k.to c.args.x.now i.1 i.2 ∙ sym c.length_right.ensures ∙ c.if-not-length_right.true))

pub neighbours-requires : goal.neighbours-requires
neighbours-requires c = (c.field.ensures.inside c.in_ok-key.key c.in_ok-key.was).2

pub returns : goal.returns
returns c =
    let k = c.in_ok-key.key in
    let i = c.field.ensures.inside k c.in_ok-key.was in
    absents_there (stands_as c.in_ok-key.was c.field.ensures) (all_bytes c.args.x.now (λ j. omega (arith, c.shared_slice_known-1.given j)))
    (length_right_is 256 k.from k.to c.args.x.now i.1 i.2 ∙ sym c.length_right.ensures ∙ c.if-not-length_right.false) c.neighbours.ensures
