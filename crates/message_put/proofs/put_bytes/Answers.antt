-- `message_put::put_bytes` meets its contract: a part of the room, filled. Assumes nothing.
use lib.ListN.{length-take, length-drop}
use Rattle.message_put.proofs.Parts.{part_put}
use native.Mathlib.Omega.{arith}
use Rattle.message_put.proofs.put_bytes.Goals as goal

pub overflow_add-end : goal.overflow_add-end
overflow_add-end c = omega (arith, c.requires.fits)

pub slice_bounds-copy-start : goal.slice_bounds-copy-start
slice_bounds-copy-start c = omega (arith, c.requires.fits)

pub slice_bounds-copy-end : goal.slice_bounds-copy-end
slice_bounds-copy-end c = omega (arith, c.requires.fits)

pub copy-requires : goal.copy-requires
copy-requires c = simp (length-take, length-drop) (omega (arith, c.requires.fits))

pub returns : goal.returns
returns c = let a = c.args in part_put a.at a.x.now a.room.now c.copy.new.s c.copy.ensures
