-- `verify_holds::walk_presence` meets its contract: the path, where the key is the one asked for. Assumes nothing.
use native.Mathlib.Omega.{arith}
use mathlib.Core.Path.{sym, ◌∙◌}
use Rattle.proofrecords.proofs.Forms.{presence_whole}
use Rattle.verify_neighbours.proofs.Neighbours.{never}
use Rattle.verify_holds.proofs.walk_presence.Goals as goal

pub is_of-requires : goal.is_of-requires
is_of-requires c = let w = presence_whole c.args.proof.now c.requires in omega arith

pub returns-then-not-is_of : goal.returns-then-not-is_of
returns-then-not-is_of c = λ k. absurd (never (sym c.is_of.ensures ∙ c.if-not-is_of.true) k)

pub returns : goal.returns
returns c = λ k. c.leads_to.ensures
