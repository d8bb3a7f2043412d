-- `forged_message::hash_word` meets its contract. Assumes nothing.
use mathlib.Core.Path.{ap, ◌∙◌}
use borrow.Author.Rules.{rules}
use Rattle.forged_message.specs.Parts.{first_word}
use Rattle.forged_message.proofs.Parts.{first_number}
use Rattle.forged_message.proofs.hash_word.Goals as goal

pub returns : goal.returns
returns c = first_number c.hash_of-h.result (search rules) ∙ ap first_word c.hash_of-h.ensures
