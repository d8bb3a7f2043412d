-- Two words one after the other spell the number of their eight bytes.
-- Assumes nothing.
use Rattle.hash.proofs.Laws.{number_of_words}
use borrow.Author.Rules.{rules}
use Rattle.hash.proofs.number_at.Goals as goal

pub returns : goal.returns
returns c =
    let a = c.args in
    rw (c.join.ensures.value, c.word_at-2.ensures, c.word_at.ensures) (number_of_words a.s.now a.at (search rules))
