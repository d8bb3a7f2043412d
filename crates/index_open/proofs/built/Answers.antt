-- `index_open::built` meets its contract. Assumes nothing.
use mathlib.Core.Path.{subst}
use Rattle.index_rules.specs.Tables.{Opened, not_built, built}
use Rattle.index_rules.proofs.Outcomes.{opened_sound, opened_fits}
use mathlib.Core.Path.{refl}
use Rattle.std.proofs.lemmas.Result.{err_from_is_err_and}
use Rattle.refusal_numbers.proofs.Numbers.{not_zero}
use Rattle.index_open.proofs.built.Goals as goal

pub returns-in_err-opened : goal.returns-in_err-opened
returns-in_err-opened c =
    let p = err_from_is_err_and c.from_residual.result c.from_residual.ensures.1 in
    rw (p.1, p.2) (not_built (not_zero c.in_err-opened.field-0.0) c.in_err-opened.ensures)

pub build-requires : goal.build-requires
build-requires c = (opened_sound c.in_ok-opened.ensures refl, opened_fits c.in_ok-opened.ensures refl)

pub returns : goal.returns
returns c =
    let a = c.args in
    built c.in_ok-opened.ensures c.build.ensures
