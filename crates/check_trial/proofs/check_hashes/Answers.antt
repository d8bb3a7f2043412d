-- `check_trial::check_hashes` is safe and ends. Assumes nothing.
use Rattle.std.proofs.Common.{sym, ◌∙◌}
use Rattle.check_trial.proofs.check_hashes.Goals as goal

pub hashed-requires : goal.hashed-requires
hashed-requires c = sym c.size_right.ensures ∙ c.if-not-size_right.false
