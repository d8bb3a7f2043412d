-- `forged_path::is_nothing` meets its contract, case by case. Assumes nothing.
use Rattle.forged_path.proofs.Upwards.{told_nothing, told_something}
use Rattle.forged_path.proofs.is_nothing.Goals as goal

pub returns-in-Nothing : goal.returns-in-Nothing
returns-in-Nothing c = told_nothing _ c.in-Nothing.is

pub returns-in_default : goal.returns-in_default
returns-in_default c = told_something _ c.in_default.not-Nothing
