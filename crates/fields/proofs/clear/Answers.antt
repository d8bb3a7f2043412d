-- `fields::clear` meets its contract: zero bytes are zero, repeated. Assumes nothing.
use borrow.Author.Rules.{rules}
use Rattle.terms.specs.Fields.{zero_bytes}
use Rattle.fields.proofs.clear.Goals as goal

pub returns : goal.returns
unfolding zero_bytes
returns c = search rules
