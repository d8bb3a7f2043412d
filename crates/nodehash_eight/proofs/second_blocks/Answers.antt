-- `nodehash_eight::second_blocks` meets its contract. Each second block is that of its own message. Assumes nothing.
use Prim.Native.Nat.{◌+◌, ◌-◌}
use native.Mathlib.Omega.{arith}
use mathlib.Core.Path.{◌≡◌}
use lib.ListN.{get_or}
use borrow.Author.Rules.{rules}
use Rattle.sha256_second_start.specs.Second.{second_block}
use Rattle.sha256_eight.specs.Lanes.{word_list}
use Rattle.sha256_eight.proofs.Spread.{spread_long, words_more}
use Rattle.nodehash_eight.proofs.second_blocks.Goals as goal

pub loop-l-init : goal.loop-l-init
loop-l-init c = (omega arith, search rules, λ i h. absurd (omega arith))

pub loop-l-preserved : goal.loop-l-preserved
loop-l-preserved c =
    let w = c.second_words in
    let e = c.put_words.ensures in (
      omega arith,
      rw (e, spread_long c.loop-l.r c.loop-l.l 0 (word_list w.result)) c.loop-l.invariant.1,
      rw e (words_more (λ i v. v ≡ second_block (get_or c.args.x.now (128 + i) 0)) c.loop-l.r c.loop-l.l w.result (omega arith) c.loop-l.invariant.1 c.loop-l.invariant.2 w.ensures),
    )

pub returns : goal.returns
returns c =
    let e : c.loop-l.l ≡ 8 = omega arith in
    λ i h. c.loop-l.invariant.2 i (omega arith)
