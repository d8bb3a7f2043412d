-- `verify_holds::walk_absence` meets its contract: the paths, where the key is the one asked for. Assumes nothing.
use mathlib.Core.Path.{sym, ◌∙◌}
use Rattle.proofrecords.proofs.Forms.{absence_head_lem}
use Rattle.verify_neighbours.proofs.Neighbours.{never}
use Rattle.verify_holds.proofs.walk_absence.Goals as goal

pub is_of-requires : goal.is_of-requires
is_of-requires c = absence_head_lem c.args.proof.now c.requires

pub returns-then-not-is_of : goal.returns-then-not-is_of
returns-then-not-is_of c = λ k. absurd (never (sym c.is_of.ensures ∙ c.if-not-is_of.true) k)

pub returns : goal.returns
returns c = λ k. c.lead_around.ensures
