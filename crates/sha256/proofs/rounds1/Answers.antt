-- Sixteen words and sixteen rounds, each from the one before it; the constants are those of the table, by computing.
-- Assumes nothing.
use Rattle.sha256.specs.Sha256.{K}
use Rattle.sha256.proofs.Rolling.{sixteen_words, sixteen_rounds}
use Rattle.sha256.proofs.rounds1.Goals as goal

pub returns : goal.returns
unfolding K
returns c = (
  sixteen_words _
      c.schedule-n0.ensures
      c.schedule-n1.ensures
      c.schedule-n2.ensures
      c.schedule-n3.ensures
      c.schedule-n4.ensures
      c.schedule-n5.ensures
      c.schedule-n6.ensures
      c.schedule-n7.ensures
      c.schedule-n8.ensures
      c.schedule-n9.ensures
      c.schedule-n10.ensures
      c.schedule-n11.ensures
      c.schedule-n12.ensures
      c.schedule-n13.ensures
      c.schedule-n14.ensures
      c.schedule-n15.ensures,
  sixteen_rounds 16 _ c.args.q.s
      c.step-s1.ensures
      c.step-s2.ensures
      c.step-s3.ensures
      c.step-s4.ensures
      c.step-s5.ensures
      c.step-s6.ensures
      c.step-s7.ensures
      c.step-s8.ensures
      c.step-s9.ensures
      c.step-s10.ensures
      c.step-s11.ensures
      c.step-s12.ensures
      c.step-s13.ensures
      c.step-s14.ensures
      c.step-s15.ensures
      c.step-s16.ensures,
)
