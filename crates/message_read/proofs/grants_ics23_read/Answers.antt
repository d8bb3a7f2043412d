-- `message_read::grants_ics23_read` meets its contract, by what the message says. Assumes nothing.
use mathlib.Core.Path.{ap, ◌∙◌, subst}
use Rattle.std.specs.Prelude.{Some}
use Rattle.hash.proofs.Digits.{all_bytes}
use Rattle.message_form.specs.Said.{proof_at, Placed}
use Rattle.message_read.proofs.Answering.{reads_nothing, reads_as, encodes, short}
use native.Mathlib.Omega.{arith}
use Rattle.message_read.proofs.grants_ics23_read.Goals as goal

pub read_presence-requires : goal.read_presence-requires
read_presence-requires c =
    let a = c.args in
    let said = c.in-Some-Presence.is ∙ ap Some c.in-Some-Presence.field-0-is in
    let e = c.says.ensures.is ∙ ap (proof_at a.message.now) said in
    (subst (Placed a.message.now) said c.says.ensures.placed, short (encodes (all_bytes a.message.now (λ i. omega (arith, c.shared_slice_known-1.given i))) e))

pub read_absence-requires : goal.read_absence-requires
read_absence-requires c =
    let a = c.args in
    let said = c.in-Some-Absence.is ∙ ap Some c.in-Some-Absence.field-0-is in
    let e = c.says.ensures.is ∙ ap (proof_at a.message.now) said in
    (subst (Placed a.message.now) said c.says.ensures.placed, short (encodes (all_bytes a.message.now (λ i. omega (arith, c.shared_slice_known-1.given i))) e))

pub returns-in-None : goal.returns-in-None
returns-in-None c =
    let a = c.args in
    rw c.number.ensures (reads_nothing (all_bytes a.message.now (λ i. omega (arith, c.shared_slice_known-1.given i))) (c.says.ensures.is ∙ ap (proof_at a.message.now) c.in-None.is))

pub returns-in-Some-Presence : goal.returns-in-Some-Presence
returns-in-Some-Presence c =
    let a = c.args in
    let said = c.in-Some-Presence.is ∙ ap Some c.in-Some-Presence.field-0-is in
    let e = c.says.ensures.is ∙ ap (proof_at a.message.now) said in
    rw c.number_told.ensures (reads_as (encodes (all_bytes a.message.now (λ i. omega (arith, c.shared_slice_known-1.given i))) e) c.read_presence.ensures)

pub returns-in-Some-Absence : goal.returns-in-Some-Absence
returns-in-Some-Absence c =
    let a = c.args in
    let said = c.in-Some-Absence.is ∙ ap Some c.in-Some-Absence.field-0-is in
    let e = c.says.ensures.is ∙ ap (proof_at a.message.now) said in
    rw c.number_told-in-Some-Absence.ensures (reads_as (encodes (all_bytes a.message.now (λ i. omega (arith, c.shared_slice_known-1.given i))) e) c.read_absence.ensures)
