-- The four bytes read, packed as the definition packs them.
-- Assumes nothing.
use Rattle.hash.specs.BigEndian.{word_at}
use Rattle.hash.proofs.word_at.Goals as goal

pub returns : goal.returns
unfolding word_at
returns c = cc
