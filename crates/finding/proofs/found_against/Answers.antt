-- `finding::found_against` meets its contract: by the answer of the check. Assumes nothing.
use mathlib.Core.Path.{ap, ◌∙◌}
use Rattle.std.specs.Prelude.{Ok}
use Rattle.std.proofs.lemmas.Result.{err_from_is_err_and}
use Rattle.layout.specs.Stores.{store_of}
use Rattle.finding.proofs.Judging.{refusal_found, present_is_presence, absent_is_absence, present_found, absent_found}
use Rattle.finding.proofs.found_against.Goals as goal

pub returns-in_err-checked : goal.returns-in_err-checked
returns-in_err-checked c =
    let a = c.args in
    let p = err_from_is_err_and c.from_residual.result c.from_residual.ensures.1 in
    rw (p.1, p.2) (refusal_found (store_of a.store.now) a.version a.key.now a.proof.now c.check_against.result c.check_against.ensures c.in_err-checked.was)

pub of_presence-requires : goal.of_presence-requires
of_presence-requires c =
    let a = c.args in
    (c.requires.0, present_is_presence (store_of a.store.now) a.version a.key.now a.proof.now c.check_against.result c.check_against.ensures (c.in_ok-checked.was ∙ ap Ok c.in-Some.is))

pub of_absence-requires : goal.of_absence-requires
of_absence-requires c =
    let a = c.args in
    (c.requires.0, absent_is_absence (store_of a.store.now) a.version a.key.now a.proof.now c.check_against.result c.check_against.ensures (c.in_ok-checked.was ∙ ap Ok c.in-None.is))

pub returns-in-Some : goal.returns-in-Some
returns-in-Some c =
    let a = c.args in
    present_found (store_of a.store.now) a.version a.key.now a.proof.now c.check_against.result c.check_against.ensures (c.in_ok-checked.was ∙ ap Ok c.in-Some.is) c.of_presence.ensures

pub returns-in-None : goal.returns-in-None
returns-in-None c =
    let a = c.args in
    absent_found (store_of a.store.now) a.version a.key.now a.proof.now c.check_against.result c.check_against.ensures (c.in_ok-checked.was ∙ ap Ok c.in-None.is) c.of_absence.ensures
