-- `verify::verify` meets its contract: the lengths, then which form the proof has, then whether it holds.
-- Assumes nothing.
use native.Mathlib.Omega.{arith}
use mathlib.Core.Path.{sym, ◌∙◌}
use lib.Seq.{take_all}
use Rattle.terms.specs.Fields.{slice}
use Rattle.proofrecords.proofs.Forms.{presence_whole}
use Rattle.verify.proofs.Checks.{presence_answer, absence_answer, root_off, key_off, as_presence, as_absence, off_form}
use Rattle.verify.proofs.verify.Goals as goal

pub returns-then-root-ne32 : goal.returns-then-root-ne32
returns-then-root-ne32 c = let a = c.args in sym (root_off a.root.now a.key.now a.proof.now c.if-root-ne32.true)

pub returns-then-key-ne32 : goal.returns-then-key-ne32
returns-then-key-ne32 c =
    let a = c.args in
    sym (key_off a.root.now a.key.now a.proof.now c.if-root-ne32.false c.if-key-ne32.true)

pub hash_at-value-requires : goal.hash_at-value-requires
hash_at-value-requires c =
    let w = presence_whole c.args.proof.now (sym c.is_presence.ensures ∙ c.if-is_presence.true) in
    omega arith

pub walk_presence-good-requires : goal.walk_presence-good-requires
walk_presence-good-requires c = sym c.is_presence.ensures ∙ c.if-is_presence.true

pub presence_holds-holds-requires : goal.presence_holds-holds-requires
presence_holds-holds-requires c = record { proof_value = sym c.is_presence.ensures ∙ c.if-is_presence.true; good_value = c.walk_presence-good.ensures }

pub returns-then-is_presence : goal.returns-then-is_presence
unfolding slice
returns-then-is_presence c =
    let a = c.args in
    c.held.ensures
    ∙ presence_answer a.root.now a.key.now a.proof.now (c.hash_at-top.ensures.result_value ∙ take_all 32 a.root.now (omega (arith, c.if-root-ne32.false))) c.hash_at-value.ensures.result_value c.presence_holds-holds.ensures
    ∙ sym (as_presence a.root.now a.key.now a.proof.now c.if-root-ne32.false c.if-key-ne32.false (sym c.is_presence.ensures ∙ c.if-is_presence.true))

pub walk_absence-led-requires : goal.walk_absence-led-requires
walk_absence-led-requires c = sym c.is_absence.ensures ∙ c.if-is_absence.true

pub absence_holds-holds-requires : goal.absence_holds-holds-requires
absence_holds-holds-requires c = record { proof_value = sym c.is_absence.ensures ∙ c.if-is_absence.true; around = c.walk_absence-led.ensures }

pub returns-then-is_absence : goal.returns-then-is_absence
returns-then-is_absence c =
    let a = c.args in
    c.held-then-is_absence.ensures
    ∙ absence_answer a.root.now a.key.now a.proof.now (c.hash_at-top.ensures.result_value ∙ take_all 32 a.root.now (omega (arith, c.if-root-ne32.false))) c.absence_holds-holds.ensures
    ∙ sym (as_absence a.root.now a.key.now a.proof.now c.if-root-ne32.false c.if-key-ne32.false (sym c.is_presence.ensures ∙ c.if-is_presence.false) (sym c.is_absence.ensures ∙ c.if-is_absence.true))

pub returns : goal.returns
returns c =
    let a = c.args in
    sym (off_form a.root.now a.key.now a.proof.now c.if-root-ne32.false c.if-key-ne32.false (sym c.is_presence.ensures ∙ c.if-is_presence.false) (sym c.is_absence.ensures ∙ c.if-is_absence.false))
