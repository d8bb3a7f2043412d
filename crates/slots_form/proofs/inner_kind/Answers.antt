-- `slots_form::inner_kind` meets its contract: by the size. Assumes nothing.
use borrow.Author.Tests.{eq-eqb, ne_eqb}
use Rattle.slots_form.proofs.inner_kind.Goals as goal

pub returns-then-n-eq-PLAIN_SIZE : goal.returns-then-n-eq-PLAIN_SIZE
returns-then-n-eq-PLAIN_SIZE c = rw (eq-eqb _ _ c.if-n-eq-PLAIN_SIZE.true)

pub returns : goal.returns
returns c = rw (ne_eqb _ _ c.if-n-eq-PLAIN_SIZE.false)
