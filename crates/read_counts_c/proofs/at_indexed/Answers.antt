-- `read_counts_c::at_indexed` meets its contract: a table of another length is refused, else the read is by the table. Assumes nothing.
use mathlib.Core.Path.{sym, ◌∙◌}
use Rattle.read_position.proofs.Answers.{position_as_many, position_not_as_many}
use Rattle.meaning.proofs.Told.{exported_as, exported_refusal}
use Rattle.read_counts_c.proofs.at_indexed.Goals as goal

pub returns-then-not-as_many : goal.returns-then-not-as_many
returns-then-not-as_many c =
    let a = c.args in
    record {
      exported = rw (c.from.ensures, c.number.ensures) (exported_refusal
          (position_not_as_many a.store.now a.index.now a.version a.position (sym c.as_many.ensures ∙ c.if-not-as_many.true)));
    }

pub returns : goal.returns
returns c =
    let a = c.args in
    record {
      exported = exported_as (position_as_many a.store.now a.index.now a.version a.position (sym c.as_many.ensures ∙ c.if-not-as_many.false))
          c.at_by.ensures;
    }
