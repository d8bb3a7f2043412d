-- The majority by differences.
-- Assumes nothing.
use native.Mathlib.Omega.{arith}
use Rattle.sha256_words.proofs.Majority.{majority}
use Rattle.sha256_words.proofs.maj.Goals as goal

pub returns : goal.returns
returns c = majority 32 c.args.x c.args.y c.args.z (omega arith) (omega arith) (omega arith)
