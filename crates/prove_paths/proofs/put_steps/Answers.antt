-- `prove_paths::put_steps` meets its contract: a step a turn, from the end of the path upwards. Assumes nothing.
use Prim.Native.Nat.{◌-◌}
use native.Mathlib.Omega.{arith}
use mathlib.Core.Path.{sym, ◌∙◌}
use lib.ListN.{length-take, length-drop}
use Rattle.place.specs.Place.{place_of}
use Rattle.place.proofs.Places.{proper_whole}
use Rattle.prove_paths.specs.Paths.{path_steps}
use Rattle.prove_paths.proofs.Writing.{steps_start, steps_next, steps_done}
use Rattle.prove_paths.proofs.put_steps.Goals as goal

pub loop-depth-init : goal.loop-depth-init
loop-depth-init c = steps_start _ _ _ _ _ c.requires.1

pub overflow_add-end : goal.overflow_add-end
overflow_add-end c = omega (arith, c.loop-depth.invariant, c.requires.0.proper.short)

pub bounds-slots-depth : goal.bounds-slots-depth
bounds-slots-depth c = omega (arith, c.loop-depth.invariant, c.requires.0.proper.short)

pub overflow_cast-i : goal.overflow_cast-i
overflow_cast-i c = let k = c.loop-depth.invariant.within in omega (arith, c.requires.0.above (c.loop-depth.depth - 1) (omega arith))

pub slice_bounds-put_step-start : goal.slice_bounds-put_step-start
slice_bounds-put_step-start c = omega (arith, c.loop-depth.invariant)

pub slice_bounds-put_step-end : goal.slice_bounds-put_step-end
slice_bounds-put_step-end c = omega (arith, c.loop-depth.invariant)

pub key_bit-requires : goal.key_bit-requires
key_bit-requires c = omega (arith, proper_whole c.args.path.place c.requires.0.proper, c.requires.0.proper.short, c.loop-depth.invariant.within)

pub put_step-requires : goal.put_step-requires
put_step-requires c =
    let w = c.loop-depth.invariant in
    (simp (length-take, length-drop) (omega (arith, w)), c.requires.0.above (c.loop-depth.depth - 1) (omega (arith, w.within)))

pub loop-depth-preserved : goal.loop-depth-preserved
loop-depth-preserved c =
    steps_next c.loop-depth.depth c.put_step.new.part c.loop-depth.invariant c.loop-depth-test.true
    (c.put_step.auto.part ∙ simp (length-take, length-drop) (omega (arith, c.loop-depth.invariant))) c.key_bit.ensures c.put_step.ensures

pub shape_of-part : goal.shape_of-part
shape_of-part c = c.loop-depth.invariant.long ∙ sym c.requires.1

pub returns : goal.returns
unfolding path_steps place_of
returns c = steps_done _ c.loop-depth.invariant c.loop-depth-test.false
