-- T1 without its word: a zero adds nothing.
-- Assumes nothing.
use Rattle.sha256_second_start.proofs.Laws.{no_word}
use Rattle.sha256_second_start.proofs.known.Goals as goal

pub returns : goal.returns
returns c = rw (← no_word c.args.s c.args.k) cc
