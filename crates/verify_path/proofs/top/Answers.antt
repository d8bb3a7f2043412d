-- `verify_path::top` meets its contract: from the hash at step i the steps that are left lead where all lead from the leaf.
-- Assumes nothing.
use native.Mathlib.Omega.{arith}
use native.Mathlib.Nat.{sub-zero}
use mathlib.Core.Path.{ap, sym, ◌∙◌}
use lib.ListN.{length-take, length-drop}
use Rattle.meaning.specs.Checking.{climb}
use Rattle.hash.specs.Hash.{hash_bytes}
use Rattle.nodehash.specs.Node.{leaf_hash, inner_hash}
use Rattle.verify_path.proofs.Steps.{steps_left, no_steps_left, grant_at_lem}
use Rattle.verify_path.proofs.top.Goals as goal

pub leaf_hash-h-requires : goal.leaf_hash-h-requires
leaf_hash-h-requires c = simp (length-take, length-drop) (omega arith)

pub loop-i-init : goal.loop-i-init
loop-i-init c =
    let a = c.args in
    rw (sub-zero, c.leaf_hash-h.ensures, (grant_at_lem a.p.now (omega arith)).0, (grant_at_lem a.p.now (omega arith)).1)

pub loop-i-preserved : goal.loop-i-preserved
loop-i-preserved c =
    let a = c.args in
    rw c.parent-h.ensures (sym (ap (climb leaf_hash inner_hash (hash_bytes c.loop-i.h)) (steps_left c.loop-i.i a.n a.p.now (omega arith))) ∙ c.loop-i.invariant)

pub returns : goal.returns
returns c =
    let a = c.args in
    sym (ap (climb leaf_hash inner_hash (hash_bytes c.loop-i.h)) (no_steps_left c.loop-i.i a.n a.p.now (omega arith))) ∙ c.loop-i.invariant
