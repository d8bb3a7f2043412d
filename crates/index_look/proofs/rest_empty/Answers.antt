-- `index_look::rest_empty` meets its contract: each entry from `many` on was looked at. Assumes nothing.
use borrow.Author.Rules.{rules}
use Rattle.index_look.proofs.Entries.{rest_told}
use Rattle.index_look.proofs.rest_empty.Goals as goal

pub returns : goal.returns
returns c = rest_told c.all.result c.args.table.now c.args.many c.requires.0 c.requires.1 (search rules)
