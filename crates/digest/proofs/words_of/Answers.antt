-- Sixteen words read one after the other are the block.
-- Assumes nothing.
use mathlib.Core.Path.{ap, ◌∙◌}
use native.Mathlib.Nat.{add-zero}
use native.Mathlib.Omega.{arith}
use Rattle.hash.specs.BigEndian.{word_at}
use Rattle.sha256.proofs.Blocks.{block_of_words}
use Rattle.digest.proofs.words_of.Goals as goal

pub returns : goal.returns
returns g c m p is =
    block_of_words m p
    (is 0 _ (omega arith) c.word.ensures ∙ ap (word_at m) (add-zero p))
    (is 1 _ (omega arith) c.word-2.ensures)
    (is 2 _ (omega arith) c.word-3.ensures)
    (is 3 _ (omega arith) c.word-4.ensures)
    (is 4 _ (omega arith) c.word-5.ensures)
    (is 5 _ (omega arith) c.word-6.ensures)
    (is 6 _ (omega arith) c.word-7.ensures)
    (is 7 _ (omega arith) c.word-8.ensures)
    (is 8 _ (omega arith) c.word-9.ensures)
    (is 9 _ (omega arith) c.word-10.ensures)
    (is 10 _ (omega arith) c.word-11.ensures)
    (is 11 _ (omega arith) c.word-12.ensures)
    (is 12 _ (omega arith) c.word-13.ensures)
    (is 13 _ (omega arith) c.word-14.ensures)
    (is 14 _ (omega arith) c.word-15.ensures)
    (is 15 _ (omega arith) c.word-16.ensures)
