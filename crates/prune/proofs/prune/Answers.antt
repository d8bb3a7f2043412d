-- `prune::prune` meets its contract: it is refused by check, or the store is sound. Assumes nothing.
use mathlib.Core.Path.{refl}
use Rattle.std.proofs.lemmas.Result.{err_from_is_err_and}
use Rattle.refusal_numbers.proofs.Numbers.{not_zero}
use Rattle.prune_sound.specs.Prune.{pruned_says}
use Rattle.promises.specs.Calls.{not_checked}
use Rattle.promises.proofs.Calls.{checked_sound}
use Rattle.prune.proofs.prune.Goals as goal

pub returns-in_err-check : goal.returns-in_err-check
unfolding pruned_says
returns-in_err-check c =
    let p = err_from_is_err_and c.from_residual.result c.from_residual.ensures.1 in
    rw (p.1, p.2) (not_checked c.in_err-check.ensures (not_zero c.in_err-check.field-0.0))

pub prune_sound-requires : goal.prune_sound-requires
prune_sound-requires c = checked_sound c.in_ok-check.ensures refl
