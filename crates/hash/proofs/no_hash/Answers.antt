-- Four zeros have 32 zero bytes: computed.
-- Assumes nothing.
use mathlib.Core.Path.{refl}
use Rattle.terms.specs.Records.{zeros}
use Rattle.hash.specs.Hash.{hash_bytes}
use Rattle.hash.proofs.no_hash.Goals as goal

pub returns : goal.returns
unfolding hash_bytes zeros
returns c = refl
