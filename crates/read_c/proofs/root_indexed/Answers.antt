-- `read_c::root_indexed` meets its contract: a table of another length is refused, else the read is by the table. Assumes nothing.
use mathlib.Core.Path.{sym, ◌∙◌}
use Rattle.contracts.proofs.Refusing.{root_not_as_many}
use Rattle.read.proofs.Answers.{root_as_many}
use Rattle.meaning.proofs.Told.{exported_as, exported_refusal}
use Rattle.read_c.proofs.root_indexed.Goals as goal

pub returns-then-not-as_many : goal.returns-then-not-as_many
returns-then-not-as_many c =
    let a = c.args in
    record {
      exported = rw (c.from.ensures, c.number.ensures) (exported_refusal
          (root_not_as_many a.store.now a.index.now a.version (sym c.as_many.ensures ∙ c.if-not-as_many.true)));
    }

pub returns : goal.returns
returns c =
    let a = c.args in
    record {
      exported = exported_as (root_as_many a.store.now a.index.now a.version (sym c.as_many.ensures ∙ c.if-not-as_many.false))
          c.root_by.ensures;
    }
