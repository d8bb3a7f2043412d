-- `check_ahead::enter_eight` meets its contract: eight messages, eight hashes. Assumes nothing.
use Rattle.check_hash.specs.Known.{Known}
use Rattle.check_ahead.proofs.enter_eight.Given as goal

abbrev pub invariant-loop-l : goal.invariant-loop-l
invariant-loop-l l = Known l.form l.store l.known
