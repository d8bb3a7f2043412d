-- `verify_one::step_count` meets its contract. The count stands in the head. Assumes nothing.
use borrow.Author.Rules.{rules}
use Rattle.proofrecords.specs.ProofBytes.{step_count}
use Rattle.verify_one.proofs.step_count.Goals as goal

pub returns : goal.returns
unfolding step_count
returns c = (c.get_u16.ensures, search rules)
