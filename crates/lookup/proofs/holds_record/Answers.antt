-- `lookup::holds_record` meets its contract: a leaf and an inner record in form are the two kinds of record. Assumes nothing.
use mathlib.Core.Path.{sym, ◌∙◌}
use Rattle.lookup.proofs.Matching.{leaf_used, inner_used}
use Rattle.lookup.proofs.holds_record.Goals as goal

-- src/lib.rt:22:9
pub returns-then-is_leaf : goal.returns-then-is_leaf
returns-then-is_leaf c = sym (leaf_used _ (sym c.is_leaf.ensures ∙ c.if-is_leaf.true))

-- src/lib.rt:17:1
pub returns : goal.returns
returns c = c.is_inner.ensures ∙ sym (inner_used _ c.requires.0 (sym c.is_leaf.ensures ∙ c.if-is_leaf.false))
