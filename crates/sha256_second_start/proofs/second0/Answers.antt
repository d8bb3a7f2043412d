-- Sixteen rounds, each from the one before it; the last word stands in its constant.
-- Assumes nothing.
use mathlib.Core.Path.{◌∙◌}
use Rattle.sha256.specs.Sha256.{K}
use Rattle.sha256.proofs.Rolling.{sixteen_rounds}
use Rattle.sha256_second_start.specs.Second.{second_block}
use Rattle.sha256_second_start.proofs.Laws.{word_in_constant}
use Rattle.sha256_second_start.proofs.second0.Goals as goal

pub returns : goal.returns
unfolding K
returns c =
    sixteen_rounds 0 (second_block c.args.w) c.args.s
    c.step-s1.ensures
    c.known-s2.ensures
    c.known-s3.ensures
    c.known-s4.ensures
    c.known-s5.ensures
    c.known-s6.ensures
    c.known-s7.ensures
    c.known-s8.ensures
    c.known-s9.ensures
    c.known-s10.ensures
    c.known-s11.ensures
    c.known-s12.ensures
    c.known-s13.ensures
    c.known-s14.ensures
    c.known-s15.ensures
    (c.known-s16.ensures ∙ word_in_constant _ 0xc19bf174 520)
