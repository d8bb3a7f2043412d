-- `forged_message::collides` meets its contract: the same message is none, and of others the hashes decide. Assumes nothing.
use mathlib.Core.Path.{ap₂, sym, ◌∙◌}
use Rattle.terms.specs.Bits.{same_bytes}
use Rattle.forged_message.proofs.Parts.{itself}
use Rattle.forged_message.proofs.collides.Goals as goal

pub returns-then-same_message : goal.returns-then-same_message
returns-then-same_message c = itself _ _ (sym c.same_message.ensures ∙ c.if-same_message.true)

pub returns : goal.returns
returns c =
    rw (← c.same_message.ensures, c.if-same_message.false)
    (c.same_hash.ensures ∙ ap₂ same_bytes c.hash_of.ensures c.hash_of-2.ensures)
