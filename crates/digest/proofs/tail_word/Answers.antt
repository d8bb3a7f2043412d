-- A word within the message is the message's own, one past its end is zero, and the one between is read byte by byte.
-- Assumes nothing.
use mathlib.Core.Path.{◌∙◌, sym}
use mathlib.Core.List.{[], ◌∷◌}
use native.Mathlib.Omega.{arith}
use Rattle.hash.specs.BigEndian.{word_at}
use Rattle.digest.proofs.Padding.{word_append, word_past}
use Rattle.digest.proofs.tail_word.Goals as goal

pub returns-then-at-b : goal.returns-then-at-b
returns-then-at-b c =
    let a = c.args in
    c.word_at.ensures ∙ sym (word_append a.b.now (128 ∷ []) a.at (omega arith))

pub returns-then-b-at : goal.returns-then-b-at
returns-then-b-at c =
    let a = c.args in
    sym (word_past a.b.now a.at (omega arith))

pub returns : goal.returns
unfolding word_at
returns c = cc
