-- `figures_write::write_each` meets its contract: a version a turn, each after the one before, from a block that has it. Assumes nothing.
use native.Mathlib.Omega.{arith}
use mathlib.Core.Path.{refl}
use Rattle.figures_write.proofs.Ranges.{sound_slots}
use Rattle.figures_write.proofs.Writing.{writing_starts, writing_range, writing_same, writing_part, writing_next, writing_done}
use Rattle.figures_write.proofs.write_each.Goals as goal

pub no_block-block-requires : goal.no_block-block-requires
no_block-block-requires c = tt

pub loop-i-init : goal.loop-i-init
loop-i-init c =
    let a = c.args in
    (writing_starts a.first a.last a.store.now a.part.now c.requires.0 refl, c.no_block-block.ensures a.store.now a.list.now, c.requires.1)

pub overflow_cast-more : goal.overflow_cast-more
overflow_cast-more c = let w = c.loop-i.invariant.0 in let r = writing_range w in omega (arith, w.many, r.few, r.ordered)

pub overflow_add-version : goal.overflow_add-version
overflow_add-version c = let w = c.loop-i.invariant.0 in let r = writing_range w in omega (arith, w.many, r.few, r.ordered)

pub block_with-block-requires : goal.block_with-block-requires
block_with-block-requires c =
    let w = c.loop-i.invariant in
    let r = writing_range w.0 in
    (sound_slots w.0.range.sound, w.2, w.1, omega (arith, w.0.many, r.few, r.ordered))

pub figures_in-f-requires : goal.figures_in-f-requires
figures_in-f-requires c =
    let b = c.block_with-block.ensures in
    (sound_slots c.loop-i.invariant.0.range.sound, b.0, b.1, b.2)

pub overflow_mul-at : goal.overflow_mul-at
overflow_mul-at c = let w = c.loop-i.invariant.0 in let r = writing_range w in omega (arith, w.many, r.few, r.ordered)

pub overflow_add-end : goal.overflow_add-end
overflow_add-end c = let w = c.loop-i.invariant.0 in let r = writing_range w in omega (arith, w.many, r.few, r.ordered)

pub slice_bounds-put_figures-end : goal.slice_bounds-put_figures-end
slice_bounds-put_figures-end c =
    let w = c.loop-i.invariant.0 in
    omega (arith, w.many, writing_same w, w.range.long)

pub put_figures-requires : goal.put_figures-requires
put_figures-requires c = writing_part c.loop-i.invariant.0 (omega arith)

pub overflow_add-nodes : goal.overflow_add-nodes
overflow_add-nodes c = omega (arith, c.figures_in-f.ensures.few)

pub overflow_add-records : goal.overflow_add-records
overflow_add-records c =
    let w = c.loop-i.invariant.0 in
    let r = writing_range w in
    omega (arith, c.figures_in-f.ensures.few, w.few, w.many, r.few, r.ordered)

pub loop-i-preserved : goal.loop-i-preserved
loop-i-preserved c =
    let b = c.block_with-block.ensures in
    (writing_next c.loop-i.invariant.0 (omega arith) c.figures_in-f.result c.put_figures.new.part c.figures_in-f.ensures c.put_figures.ensures, b.0, b.3)

pub shape_of-part : goal.shape_of-part
shape_of-part c = writing_same c.loop-i.invariant.0

pub returns : goal.returns
returns c = writing_done c.loop-i.invariant.0 (omega arith)
