-- The two hashes that are read have the bytes of the key and of the value.
-- Assumes nothing.
use mathlib.Core.Path.{◌∙◌}
use native.Mathlib.Omega.{arith}
use lib.ListN.{drop, length-drop}
use lib.Seq.{take_all}
use Rattle.nodehash.specs.Node.{leaf_hash}
use Rattle.nodehash.proofs.leaf_hash.Goals as goal

pub returns : goal.returns
unfolding leaf_hash
returns c =
    let g = c.args.grant.now in
    let e = c.hash_at-2.ensures.result_value ∙ take_all 32 (drop 32 g) (simp length-drop (omega arith)) in
    rw (← c.hash_at.ensures.result_value, ← e) c.node_hash.ensures
