-- The bytes of the last hash value.
-- Assumes nothing.
use mathlib.Core.Path.{ap, ◌∙◌}
use Rattle.sha256.specs.Sha256.{state_bytes, sha256}
use Rattle.digest.proofs.digest.Goals as goal

pub returns : goal.returns
unfolding sha256
returns c = c.to_hash.ensures ∙ ap state_bytes c.hash_value.ensures
