-- Sixteen rounds, each from the one before it; the constants are those of the table, by computing.
-- Assumes nothing.
use Rattle.sha256.specs.Sha256.{K}
use Rattle.sha256.proofs.Rolling.{sixteen_rounds}
use Rattle.sha256_eight.proofs.lane0.Goals as goal

pub returns : goal.returns
unfolding K
returns c =
    sixteen_rounds 0 c.args.x c.args.s
    c.step-s1.ensures
    c.step-s2.ensures
    c.step-s3.ensures
    c.step-s4.ensures
    c.step-s5.ensures
    c.step-s6.ensures
    c.step-s7.ensures
    c.step-s8.ensures
    c.step-s9.ensures
    c.step-s10.ensures
    c.step-s11.ensures
    c.step-s12.ensures
    c.step-s13.ensures
    c.step-s14.ensures
    c.step-s15.ensures
    c.step-s16.ensures
