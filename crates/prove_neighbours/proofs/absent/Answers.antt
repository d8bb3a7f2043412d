-- `prove_neighbours::absent` meets its contract: both searches, the shape that they give, and the length. Assumes nothing.
use native.Mathlib.Omega.{arith}
use mathlib.Core.Path.{refl}
use Rattle.prove_paths.proofs.Records.{neighbour_count, room_most}
use Rattle.prove_neighbours.proofs.Planning.{absence_planned}
use Rattle.prove_neighbours.proofs.absent.Goals as goal

pub neighbour_length-requires : goal.neighbour_length-requires
neighbour_length-requires c = let n = c.neighbour-first in neighbour_count _ n.result n.ensures.within

pub overflow_add-length : goal.overflow_add-length
overflow_add-length c = let n = c.neighbour-first in omega (arith, room_most _ n.result n.ensures.within, c.neighbour_length.ensures)

pub neighbour_length-requires-2 : goal.neighbour_length-requires-2
neighbour_length-requires-2 c = let n = c.neighbour-second in neighbour_count _ n.result n.ensures.within

pub overflow_add-length-2 : goal.overflow_add-length-2
overflow_add-length-2 c =
    let l = c.neighbour-first in
    let r = c.neighbour-second in
    omega (
      arith,
      room_most _ l.result l.ensures.within,
      room_most _ r.result r.ensures.within,
      c.neighbour_length.ensures,
      c.neighbour_length-2.ensures,
    )

pub returns : goal.returns
returns c =
    let l = c.neighbour-first in
    let r = c.neighbour-second in
    absence_planned _ _ _ l.ensures r.ensures c.absence_shape-shape.ensures c.neighbour_length.ensures c.neighbour_length-2.ensures refl
