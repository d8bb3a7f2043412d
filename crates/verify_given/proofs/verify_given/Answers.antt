-- `verify_given::verify_given` meets its contract. Which form the proof has, then whether it holds. Assumes nothing.
use native.Mathlib.Omega.{arith}
use mathlib.Core.Path.{refl, sym, ◌∙◌}
use Rattle.verify.proofs.Checks.{presence_answer, absence_answer}
use Rattle.proofrecords.proofs.Forms.{presence_whole}
use Rattle.hash.specs.Hash.{hash_bytes}
use Rattle.terms.specs.Fields.{slice}
use Rattle.verify.proofs.Judged.{as_presence, as_absence, off_form}
use Rattle.verify_given.proofs.verify_given.Goals as goal

pub hash_at-value-requires : goal.hash_at-value-requires
hash_at-value-requires c =
    let w = presence_whole c.args.proof.now (sym c.is_presence.ensures ∙ c.if-is_presence.true) in
    omega arith

pub presence_holds-holds-requires : goal.presence_holds-holds-requires
presence_holds-holds-requires c =
    let p = sym c.is_presence.ensures ∙ c.if-is_presence.true in
    record { proof_value = p; good_value = λ k. c.requires.direct p }

pub returns-then-is_presence : goal.returns-then-is_presence
unfolding slice
returns-then-is_presence c =
    let a = c.args in
    let root = hash_bytes a.root in
    c.held.ensures
    ∙ presence_answer root a.key.now a.proof.now refl c.hash_at-value.ensures.result_value c.presence_holds-holds.ensures
    ∙ sym (as_presence root a.key.now a.proof.now (sym c.is_presence.ensures ∙ c.if-is_presence.true))

pub absence_holds-holds-requires : goal.absence_holds-holds-requires
absence_holds-holds-requires c =
    let p = sym c.is_absence.ensures ∙ c.if-is_absence.true in
    record { proof_value = p; around = λ k. c.requires.around p }

pub returns-then-is_absence : goal.returns-then-is_absence
returns-then-is_absence c =
    let a = c.args in
    let root = hash_bytes a.root in
    c.held-then-is_absence.ensures
    ∙ absence_answer root a.key.now a.proof.now refl c.absence_holds-holds.ensures
    ∙ sym (as_absence root a.key.now a.proof.now (sym c.is_presence.ensures ∙ c.if-is_presence.false) (sym c.is_absence.ensures ∙ c.if-is_absence.true))

pub returns : goal.returns
returns c =
    let a = c.args in
    sym (off_form (hash_bytes a.root) a.key.now a.proof.now (sym c.is_presence.ensures ∙ c.if-is_presence.false) (sym c.is_absence.ensures ∙ c.if-is_absence.false))
