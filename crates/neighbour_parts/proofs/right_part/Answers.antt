-- `neighbour_parts::right_part` meets its contract: it is all after the left one. Assumes nothing.
use native.Mathlib.Omega.{arith}
use mathlib.Core.Path.{ap, ◌∙◌}
use Rattle.proofrecords.specs.ProofBytes.{is_presence, left_length}
use Rattle.proofrecords.proofs.Forms.{right_there, both_room, right_part_lem}
use Rattle.neighbour_parts.proofs.right_part.Goals as goal

pub get_u32-requires : goal.get_u32-requires
get_u32-requires c = omega (arith, both_room c.args.proof.now c.requires.0 c.requires.1)

pub slice_bounds-result-count : goal.slice_bounds-result-count
unfolding left_length
slice_bounds-result-count c = omega (arith, both_room c.args.proof.now c.requires.0 c.requires.1)

pub slice_bounds-result-start : goal.slice_bounds-result-start
unfolding left_length
slice_bounds-result-start c = omega (arith, both_room c.args.proof.now c.requires.0 c.requires.1)

pub returns : goal.returns
unfolding left_length
returns c = let x = c.args.proof.now in
    let e = right_part_lem _ x c.get_u32.ensures in
    (e, ap is_presence e ∙ right_there x c.requires.0 c.requires.1)
