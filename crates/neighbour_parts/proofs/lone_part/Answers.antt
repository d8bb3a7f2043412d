-- `neighbour_parts::lone_part` meets its contract: it is all after the head. Assumes nothing.
use native.Mathlib.Omega.{arith}
use mathlib.Core.Path.{ap, ◌∙◌}
use Rattle.proofrecords.specs.ProofBytes.{is_presence}
use Rattle.proofrecords.proofs.Forms.{absence_head_lem, one_there, rest_part}
use Rattle.neighbour_parts.proofs.lone_part.Goals as goal

pub slice_bounds-result-count : goal.slice_bounds-result-count
slice_bounds-result-count c = omega (arith, absence_head_lem c.args.proof.now c.requires.0)

pub slice_bounds-result-start : goal.slice_bounds-result-start
slice_bounds-result-start c = omega (arith, absence_head_lem c.args.proof.now c.requires.0)

pub returns : goal.returns
returns c = let x = c.args.proof.now in
    (rest_part 40 x, ap is_presence (rest_part 40 x) ∙ one_there x c.requires.0 c.requires.1)
