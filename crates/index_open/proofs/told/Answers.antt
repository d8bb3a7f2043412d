-- `index_open::told` meets its contract. Assumes nothing.
use mathlib.Core.Bool.{not}
use mathlib.Core.Path.{ap, subst}
use Rattle.index_rules.specs.Tables.{Opened, not_opened, not_right, is_right}
use Rattle.index_rules.proofs.Outcomes.{opened_sound, opened_fits}
use Rattle.index_look.proofs.Entries.{decided_so, decided_not}
use mathlib.Core.Path.{refl}
use Rattle.std.proofs.lemmas.Result.{err_from_is_err_and}
use Rattle.refusal_numbers.proofs.Numbers.{not_zero}
use Rattle.index_open.proofs.told.Goals as goal

pub returns-in_err-opened : goal.returns-in_err-opened
returns-in_err-opened c =
    let p = err_from_is_err_and c.from_residual.result c.from_residual.ensures.1 in
    rw (p.1, p.2) (not_opened (not_zero c.in_err-opened.field-0.0) c.in_err-opened.ensures)

pub is_right-requires : goal.is_right-requires
is_right-requires c = (opened_sound c.in_ok-opened.ensures refl, opened_fits c.in_ok-opened.ensures refl)

pub returns-then-not-is_right : goal.returns-then-not-is_right
returns-then-not-is_right c =
    let a = c.args in
    not_right c.in_ok-opened.ensures (decided_not c.is_right.result (ap not c.if-not-is_right.true) c.is_right.ensures)

pub returns : goal.returns
returns c =
    let a = c.args in
    is_right c.in_ok-opened.ensures (decided_so c.is_right.result (ap not c.if-not-is_right.false) c.is_right.ensures)
