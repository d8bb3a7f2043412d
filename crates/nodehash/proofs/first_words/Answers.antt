-- The sixteen words are those of the message's first block.
-- Assumes nothing.
use Rattle.nodehash.proofs.Blocks.{first_block}
use borrow.Author.Rules.{rules}
use Rattle.nodehash.proofs.first_words.Goals as goal

pub returns : goal.returns
returns c =
    first_block _ _ _ (search rules)
    c.seam.ensures
    c.middle.ensures
    c.seam-2.ensures
    c.middle-2.ensures
    c.seam-3.ensures
    c.middle-3.ensures
    c.seam-4.ensures
    c.middle-4.ensures
    c.seam-5.ensures
    c.middle-5.ensures
    c.seam-6.ensures
    c.middle-6.ensures
    c.seam-7.ensures
    c.middle-7.ensures
    c.seam-8.ensures
    c.middle-8.ensures
