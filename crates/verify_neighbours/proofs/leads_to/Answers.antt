-- `verify_neighbours::leads_to` meets its contract: the hash at the top of all steps is compared with the root.
-- Assumes nothing.
use native.Mathlib.Omega.{arith}
use mathlib.Core.Path.{◌∙◌}
use Rattle.proofrecords.specs.ProofBytes.{step_count}
use Rattle.proofrecords.proofs.Forms.{presence_whole}
use Rattle.verify_neighbours.proofs.Neighbours.{top_leads}
use Rattle.verify_neighbours.proofs.leads_to.Goals as goal

pub get_u16-n-requires : goal.get_u16-n-requires
get_u16-n-requires c = let w = presence_whole c.args.p.now c.requires in omega arith

pub top-requires : goal.top-requires
unfolding step_count
top-requires c = let w = presence_whole c.args.p.now c.requires in omega arith

pub returns : goal.returns
returns c = c.same_hash.ensures ∙ top_leads _ _ _ c.args.p.now c.get_u16-n.ensures c.top.ensures
