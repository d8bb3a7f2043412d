-- `check_trial::check_suspect` is safe and ends. Assumes nothing.
use Rattle.check_store.proofs.Answers.{says_kept}
use Rattle.check_trial.proofs.check_suspect.Goals as goal

pub suspected-requires : goal.suspected-requires
suspected-requires c = says_kept _ c.args.store.now c.read_header-header.ensures c.in-Ok.is
