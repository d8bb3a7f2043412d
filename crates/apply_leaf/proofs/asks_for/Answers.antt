-- `apply_leaf::asks_for` meets its contract: the key lies in the record. Assumes nothing.
use mathlib.Core.Path.{◌∙◌}
use Rattle.apply_leaf.proofs.Asked.{key_says}
use Rattle.apply_leaf.proofs.asks_for.Goals as goal

pub returns : goal.returns
returns c = let k = c.key-k.ensures in c.same_hash.ensures ∙ key_says _ _ _ _ c.hash_at.ensures.result_value k.0 k.1
