-- Hashes with equal numbers have equal bytes; hashes with unequal numbers have unequal bytes, since the numbers come back from the bytes.
-- Assumes nothing.
use borrow.Author.Rules.{rules}
use Rattle.hash.proofs.Laws.{same_by_numbers}
use Rattle.hash.proofs.same_hash.Goals as goal

pub returns : goal.returns
returns c = same_by_numbers c.args.x c.args.y (search rules) (search rules) c.eq.result c.eq.ensures
