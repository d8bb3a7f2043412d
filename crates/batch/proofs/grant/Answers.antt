-- `batch::grant` meets its contract: key and value stand at 8 and at 40 in their record.
-- Assumes nothing.
use native.Mathlib.Omega.{arith}
use lib.ListN.{length-take, length-drop}
use Rattle.batch.proofs.Records.{grant_part}
use Rattle.batch.proofs.grant.Goals as goal

pub returns : goal.returns
returns c = let a = c.args in (grant_part a.i a.b.now c.requires.1, simp (length-take, length-drop) (omega arith))
