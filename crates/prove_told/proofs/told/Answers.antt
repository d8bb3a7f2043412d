-- `prove_told::told` meets its contract: the case of the answer decides the number and the four bytes. Assumes nothing.
use Rattle.prove_told.proofs.Lengths.{length_refused, length_given}
use borrow.Author.Rules.{rules}
use Rattle.prove_told.proofs.told.Goals as goal

pub returns-in-Err : goal.returns-in-Err
returns-in-Err c = rw c.code.ensures (length_refused c.args.length.now c.in-Err.is)

pub returns-in-Ok : goal.returns-in-Ok
returns-in-Ok c = length_given c.args.length.now c.in-Ok.is (search rules) c.put_u32.ensures
