-- `neighbour_parts::is_lone` meets its contract: the flags say it. Assumes nothing.
use native.Mathlib.Omega.{arith}
use mathlib.Core.Path.{ap}
use lib.Dec.{leb}
use Rattle.proofrecords.specs.ProofBytes.{flags}
use Rattle.proofrecords.proofs.Forms.{absence_head_lem}
use Rattle.neighbour_parts.proofs.is_lone.Goals as goal

pub get_u16-requires : goal.get_u16-requires
get_u16-requires c = omega (arith, absence_head_lem c.args.proof.now c.requires)

pub returns : goal.returns
unfolding flags
returns c = ap (λ n. leb n 2) c.get_u16.ensures
