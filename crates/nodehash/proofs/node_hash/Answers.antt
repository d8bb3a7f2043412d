-- The message of 65 bytes has two blocks, and the words are theirs.
-- Assumes nothing.
use mathlib.Core.Path.{ap, ◌∙◌}
use Rattle.hash.specs.Hash.{hash_bytes}
use Rattle.sha256.specs.Sha256.{padded, state_bytes, sha256}
use Rattle.nodehash.proofs.Blocks.{two_blocks}
use Rattle.nodehash.proofs.node_hash.Goals as goal

pub returns : goal.returns
unfolding sha256 padded hash_bytes
returns c =
    let a = c.args in
    c.to_hash.ensures
    ∙ ap state_bytes
    (two_blocks a.t a.l a.r _ _ _ _ _ c.start.ensures c.first_words.ensures c.compress-s.ensures c.last_word.ensures
    c.compress_second.ensures)
