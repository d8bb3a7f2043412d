-- `shelf_verify::is_shelf` meets its contract: by the form of the first record. Assumes nothing.
use mathlib.Core.Path.{refl, ap, sym, ◌∙◌}
use Rattle.proofrecords.specs.ProofBytes.{is_presence, is_absence}
use Rattle.proofrecords.proofs.Forms.{rest_part}
use Rattle.shelf_verify.specs.Both.{is_proof}
use Rattle.shelf_verify.proofs.Laws.{front_part, second_decides, neither_record, end_decides}
use Rattle.shelf_verify.proofs.is_shelf.Goals as goal

pub returns-then-is_presence : goal.returns-then-is_presence
returns-then-is_presence c =
    let a = c.args in
    c.is_proof.ensures ∙ ap is_proof (rest_part a.e a.proof.now) ∙ second_decides a.e a.proof.now (sym (ap is_presence (front_part a.e a.proof.now)) ∙ sym c.is_presence.ensures ∙ c.if-is_presence.true)

pub returns-then-not-is_absence : goal.returns-then-not-is_absence
returns-then-not-is_absence c =
    let a = c.args in
    neither_record a.e a.proof.now (sym (ap is_presence (front_part a.e a.proof.now)) ∙ sym c.is_presence.ensures ∙ c.if-is_presence.false) (sym (ap is_absence (front_part a.e a.proof.now)) ∙ sym c.is_absence.ensures ∙ c.if-not-is_absence.true)

pub returns : goal.returns
returns c =
    let a = c.args in
    end_decides a.e a.proof.now (sym (ap is_presence (front_part a.e a.proof.now)) ∙ sym c.is_presence.ensures ∙ c.if-is_presence.false) (sym (ap is_absence (front_part a.e a.proof.now)) ∙ sym c.is_absence.ensures ∙ c.if-not-is_absence.false) refl
