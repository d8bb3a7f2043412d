-- `figures_block::split` meets its contract: the slots from i on are split. Assumes nothing.
use native.Mathlib.Omega.{arith}
use mathlib.Core.Path.{refl}
use lib.ListN.{length-set}
use Rattle.terms.specs.Bits.{Byte}
use Rattle.terms.proofs.Lists.{all_of}
use Rattle.figures_count.proofs.Backward.{backward_start, backward_slot}
use Rattle.figures_block.specs.Block.{Split}
use Rattle.figures_block.proofs.Splitting.{none_split, split_fits, split_slot, split_each, split_none, split_listed, split_end}
use Rattle.figures_block.proofs.split.Goals as goal

pub slot_count-n-requires : goal.slot_count-n-requires
slot_count-n-requires c = c.requires.0.size

pub loop-i-init : goal.loop-i-init
loop-i-init c =
    let a = c.args in (
      backward_start (Split a.store.now a.list.now a.first a.last 0 _) c.requires.0 c.slot_count-n.ensures
          (none_split a.store.now a.list.now a.first a.last _ (record { leaves = refl; inners = refl; longest = refl; sum = refl })),
      c.requires.1,
    )

pub lives-requires : goal.lives-requires
lives-requires c = backward_slot c.loop-i.invariant.0 (omega arith)

pub add_slot-all-requires : goal.add_slot-all-requires
add_slot-all-requires c = split_slot c.loop-i.invariant.0 (omega arith)

pub loop-i-preserved-then-lives : goal.loop-i-preserved-then-lives
loop-i-preserved-then-lives c =
    let w = c.loop-i.invariant in (
      split_each w.0 (omega arith) (all_of Byte c.args.store.now 0 (λ i _. omega (arith, c.shared_slice_known-1.given i)))
          c.lives.ensures c.if-lives.true c.add_slot-all.result c.add_slot-all.ensures,
      w.1,
    )

pub lives-requires-else-lives : goal.lives-requires-else-lives
lives-requires-else-lives c = backward_slot c.loop-i.invariant.0 (omega arith)

pub overflow_cast-list : goal.overflow_cast-list
overflow_cast-list c = let w = c.loop-i.invariant.0 in omega (arith, split_fits w (omega arith), w.within, w.small)

pub offset_bounds-list-listed : goal.offset_bounds-list-listed
offset_bounds-list-listed c = let w = c.loop-i.invariant.0 in omega (arith, split_fits w (omega arith), w.within, w.small)

pub bounds-list-listed : goal.bounds-list-listed
bounds-list-listed c = let w = c.loop-i.invariant.0 in omega (arith, split_fits w (omega arith), w.within, w.small)

pub overflow_add-listed : goal.overflow_add-listed
overflow_add-listed c = let w = c.loop-i.invariant.0 in omega (arith, split_fits w (omega arith), w.within, w.small)

pub loop-i-preserved-then-lives-2 : goal.loop-i-preserved-then-lives-2
loop-i-preserved-then-lives-2 c =
    let w = c.loop-i.invariant in
    (split_listed w.0 (omega arith) (omega (arith, split_fits w.0 (omega arith), w.1)) refl, simp length-set w.1)

pub loop-i-preserved : goal.loop-i-preserved
loop-i-preserved c =
    let w = c.loop-i.invariant in
    (split_none w.0 (omega arith) c.lives-else-lives.ensures c.if-lives-2.false, w.1)

pub returns : goal.returns
returns c =
    let w = c.loop-i.invariant in
    (split_end w.0 (omega arith), refl, refl, w.1)
