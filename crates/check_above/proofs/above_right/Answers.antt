-- `check_above::above_right` meets its contract: a root has no parents, another record stands one bit below them. Assumes nothing.
use native.Mathlib.Omega.{arith}
use Rattle.place.proofs.Places.{proper_whole}
use Rattle.check_above.proofs.Above.{root_says_lem, below_says}
use Rattle.check_above.proofs.above_right.Goals as goal

pub roots_apart-requires : goal.roots_apart-requires
roots_apart-requires c = c.requires.keeps

pub returns-then-count-eq0 : goal.returns-then-count-eq0
returns-then-count-eq0 c =
    root_says_lem c.requires c.if-count-eq0.true c.args.leaf c.args.hash c.ends_before-ends.ensures.0
    c.roots_apart.ensures

pub key_bit-right-requires : goal.key_bit-right-requires
key_bit-right-requires c = omega (arith, proper_whole c.args.head.place c.requires.proper, c.requires.proper.short, c.if-count-eq0.false)

pub returns : goal.returns
returns c =
    below_says c.requires c.if-count-eq0.false c.front-up.result c.key_bit-right.result c.front-up.ensures c.key_bit-right.ensures
    c.args.leaf c.args.hash c.ends_before-ends.result c.ends_before-ends.ensures.0 c.kept_life.result
    c.kept_life.ensures c.parents_right.result c.parents_right.ensures
