-- The blocks that are left, one or two, are the last of the padded message.
-- Assumes nothing.
use Rattle.digest.proofs.Padding.{one_block_end, two_blocks_end}
use Rattle.digest.proofs.hash_value.Goals as goal

pub returns-then-n-lt56 : goal.returns-then-n-lt56
returns-then-n-lt56 c =
    one_block_end _ _ _ _ _ c.if-n-lt56.true c.whole_blocks-s.ensures c.tail_words.ensures c.last_words.ensures
    c.compress.ensures

pub returns : goal.returns
returns c =
    two_blocks_end _ _ _ _ _ _ _ c.if-n-lt56.false c.whole_blocks-s.ensures c.tail_words-2.ensures c.compress-t.ensures
    c.tail_words-3.ensures c.last_words-2.ensures c.compress-2.ensures
