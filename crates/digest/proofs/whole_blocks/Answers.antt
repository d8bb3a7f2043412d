-- After i turns the state is the hash value H(i): a block that the message fills is a block of the padded message.
-- Assumes nothing.
use Prim.Native.Nat.{◌/◌}
use mathlib.Core.Path.{◌≡◌}
use native.Mathlib.Omega.{arith}
use lib.ListN.{length}
use Rattle.digest.proofs.Padding.{whole_next}
use borrow.Author.Rules.{rules}
use Rattle.digest.proofs.whole_blocks.Goals as goal

pub loop-i-preserved : goal.loop-i-preserved
loop-i-preserved c =
    let l = c.loop-i in
    (search rules, whole_next c.args.b.now l.i _ _ _ (omega arith) l.invariant.1 c.words_at.ensures c.compress-s.ensures)

pub returns : goal.returns
returns c =
    let e : length c.args.b.now / 64 ≡ c.loop-i.i = omega arith in
    rw e c.loop-i.invariant.1
