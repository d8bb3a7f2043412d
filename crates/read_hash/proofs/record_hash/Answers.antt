-- `read_hash::record_hash` meets its contract: a leaf's grant and an inner record's two hashes are hashed where they lie. Assumes nothing.
use native.Mathlib.Omega.{arith}
use mathlib.Core.Path.{sym, ◌∙◌}
use Rattle.read_hash.proofs.Hashing.{leaf_hashed, inner_hashed}
use borrow.Author.Rules.{rules}
use Rattle.read_hash.proofs.record_hash.Goals as goal

pub leaf_hash-requires : goal.leaf_hash-requires
leaf_hash-requires c = c.grant_of.ensures.1

pub returns-then-is_leaf : goal.returns-then-is_leaf
returns-then-is_leaf c = leaf_hashed _ (sym c.is_leaf.ensures ∙ c.if-is_leaf.true) c.grant_of.ensures.0 c.leaf_hash.ensures

pub hash_at-left-requires : goal.hash_at-left-requires
hash_at-left-requires c = omega (arith, c.child_hash.ensures.1)

pub hash_at-right-requires : goal.hash_at-right-requires
hash_at-right-requires c = omega (arith, c.child_hash-2.ensures.1)

pub returns : goal.returns
returns c =
    inner_hashed _ (sym c.is_leaf.ensures ∙ c.if-is_leaf.false) (search rules) c.child_hash.ensures.0 c.child_hash-2.ensures.0
    c.hash_at-left.ensures.result_value c.hash_at-right.ensures.result_value c.inner_hash.ensures
