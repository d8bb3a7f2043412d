-- `forged_nodes::note_words` meets its contract: slot by slot. Assumes nothing.
use native.Mathlib.Omega.{arith}
use Rattle.forged_nodes.proofs.Words.{noted_start, noted_small, noted_slot, noted_next, noted_all}
use Rattle.forged_nodes.proofs.note_words.Goals as goal

pub slot_count-n-requires : goal.slot_count-n-requires
slot_count-n-requires c = c.requires.0

pub loop-i-init : goal.loop-i-init
loop-i-init c = noted_start c.requires.0 c.requires.1

pub word_here-requires : goal.word_here-requires
word_here-requires c = noted_slot c.loop-i.invariant c.slot_count-n.ensures c.loop-i-test.true

pub offset_bounds-words-i : goal.offset_bounds-words-i
offset_bounds-words-i c = omega (arith, noted_small c.loop-i.invariant c.slot_count-n.ensures, c.loop-i-test.true)

pub bounds-words-i : goal.bounds-words-i
bounds-words-i c = omega (arith, noted_small c.loop-i.invariant c.slot_count-n.ensures, c.loop-i-test.true)

pub loop-i-preserved : goal.loop-i-preserved
loop-i-preserved c = noted_next c.loop-i.invariant c.slot_count-n.ensures c.loop-i-test.true c.word_here.ensures

pub returns : goal.returns
returns c = noted_all c.loop-i.invariant c.slot_count-n.ensures c.loop-i-test.false c.loop-i.auto.i-end
