-- `forged_message::hash_of` meets its contract: the kind says which of the two hashes it is. Assumes nothing.
use mathlib.Core.Path.{sym, ◌∙◌}
use Rattle.forged_message.proofs.Parts.{leaf_hashed, inner_hashed}
use Rattle.forged_message.proofs.hash_of.Goals as goal

pub returns-then-m : goal.returns-then-m
returns-then-m c = c.grant_hash.ensures ∙ sym (leaf_hashed c.args.m c.if-m.true)

pub returns : goal.returns
returns c = c.inner_hash.ensures ∙ sym (inner_hashed c.args.m c.if-m.false)
