-- `neighbour_parts::left_part` meets its contract: its own length says where it ends. Assumes nothing.
use native.Mathlib.Omega.{arith}
use mathlib.Core.Path.{ap, ◌∙◌}
use Rattle.proofrecords.specs.ProofBytes.{is_presence, left_length}
use Rattle.proofrecords.proofs.Forms.{left_there, both_room, left_part_lem}
use Rattle.neighbour_parts.proofs.left_part.Goals as goal

pub get_u32-requires : goal.get_u32-requires
get_u32-requires c = omega (arith, both_room c.args.proof.now c.requires.0 c.requires.1)

pub slice_bounds-result-end : goal.slice_bounds-result-end
unfolding left_length
slice_bounds-result-end c = omega (arith, both_room c.args.proof.now c.requires.0 c.requires.1)

pub returns : goal.returns
unfolding left_length
returns c = let x = c.args.proof.now in
    let e = left_part_lem _ x c.get_u32.ensures in
    (e, ap is_presence e ∙ left_there x c.requires.0 c.requires.1)
