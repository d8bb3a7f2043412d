-- `figures::figures` meets its contract: it is refused by check, or the store is sound. Assumes nothing.
use mathlib.Core.Path.{refl}
use Rattle.std.proofs.lemmas.Result.{err_from_is_err_and}
use Rattle.refusal_numbers.proofs.Numbers.{not_zero}
use Rattle.promises.specs.Calls.{not_checked}
use Rattle.promises.proofs.Calls.{checked_sound}
use Rattle.figures_sound.proofs.Answers.{refused_by_check}
use Rattle.figures.proofs.figures.Goals as goal

pub returns-in_err-check : goal.returns-in_err-check
returns-in_err-check c =
    let p = err_from_is_err_and c.from_residual.result c.from_residual.ensures.1 in
    rw (p.1, p.2) (refused_by_check (not_checked c.in_err-check.ensures (not_zero c.in_err-check.field-0.0)))

pub figures_sound-requires : goal.figures_sound-requires
figures_sound-requires c = checked_sound c.in_ok-check.ensures refl
