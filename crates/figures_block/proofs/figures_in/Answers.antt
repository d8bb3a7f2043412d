-- `figures_block::figures_in` meets its contract: the listed slots one by one. Assumes nothing.
use native.Mathlib.Omega.{arith}
use Rattle.terms.specs.Bits.{Byte}
use Rattle.terms.proofs.Lists.{all_of}
use Rattle.figures_block.proofs.Splitting.{adding_start, adding_inside, adding_small, adding_slot, adding_next, adding_end}
use Rattle.figures_block.proofs.figures_in.Goals as goal

pub loop-j-init : goal.loop-j-init
loop-j-init c = adding_start c.args.version c.requires.0 c.requires.1

pub offset_bounds-list-j : goal.offset_bounds-list-j
offset_bounds-list-j c = omega (arith, adding_inside c.loop-j.invariant (omega arith))

pub bounds-list-j : goal.bounds-list-j
bounds-list-j c = adding_inside c.loop-j.invariant (omega arith)

pub overflow_cast-i : goal.overflow_cast-i
overflow_cast-i c = omega (arith, adding_small c.loop-j.invariant (omega arith))

pub add_slot-f-requires : goal.add_slot-f-requires
add_slot-f-requires c = adding_slot c.loop-j.invariant (omega arith)

pub loop-j-preserved : goal.loop-j-preserved
loop-j-preserved c =
    adding_next c.loop-j.invariant (all_of Byte c.args.store.now 0 (λ i _. omega (arith, c.shared_slice_known-1.given i))) (omega arith)
    c.add_slot-f.result c.add_slot-f.ensures

pub returns : goal.returns
returns c = adding_end c.loop-j.invariant (omega arith) c.requires.2 c.requires.3
