-- `nodehash_eight::hash_in` meets its contract. Assumes nothing.
use mathlib.Core.Path.{ap, ◌∙◌}
use Rattle.sha256.specs.Sha256.{state_bytes}
use Rattle.nodehash_eight.proofs.hash_in.Goals as goal

pub returns : goal.returns
returns c = c.to_hash.ensures ∙ ap state_bytes c.value_in.ensures
