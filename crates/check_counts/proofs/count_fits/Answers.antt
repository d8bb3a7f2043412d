-- `check_counts::count_fits` meets its contract, by the form. Assumes nothing.
use Rattle.check_counts.proofs.Weights.{fits_equal, fits_plain}
use Rattle.check_counts.proofs.count_fits.Goals as goal

pub returns-in-Plain : goal.returns-in-Plain
returns-in-Plain c =
    let a = c.args in
    λ t. fits_plain a.form a.store.now a.i a.count c.in-Plain.is

pub returns-in-Counted : goal.returns-in-Counted
returns-in-Counted c =
    let a = c.args in
    λ t. fits_equal a.form a.store.now a.i a.count c.weight_at.ensures.0 t
