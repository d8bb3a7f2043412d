-- `read_told::root_by` meets its contract: the case of the read decides the number and the bytes. Assumes nothing.
use Rattle.read_told.proofs.Exported.{root_refused, root_written}
use borrow.Author.Rules.{rules}
use Rattle.read_told.proofs.root_by.Goals as goal

pub returns-in-Err : goal.returns-in-Err
returns-in-Err c = rw c.code.ensures (root_refused c.root-read.ensures c.args.root.now c.in-Err.is)

pub returns-in-Ok : goal.returns-in-Ok
returns-in-Ok c = root_written c.root-read.ensures c.args.root.now c.in-Ok.is (search rules) c.put_hash.ensures
