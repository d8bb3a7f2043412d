-- `changes::changes` meets its contract: it is refused by check, or the store is sound. Assumes nothing.
use mathlib.Core.Path.{refl}
use Rattle.std.proofs.lemmas.Result.{err_from_is_err_and}
use Rattle.refusal_numbers.proofs.Numbers.{not_zero}
use Rattle.promises.specs.Calls.{not_checked}
use Rattle.promises.proofs.Calls.{checked_sound}
use Rattle.changes.proofs.Opening.{refused_by_check}
use Rattle.changes.proofs.changes.Goals as goal

pub returns-in_err-check_with : goal.returns-in_err-check_with
returns-in_err-check_with c =
    let p = err_from_is_err_and c.from_residual.result c.from_residual.ensures.1 in
    rw (p.1, p.2) (refused_by_check (not_checked c.in_err-check_with.ensures (not_zero c.in_err-check_with.field-0.0)))

pub changes_sound-requires : goal.changes_sound-requires
changes_sound-requires c = checked_sound c.in_ok-check_with.ensures refl
