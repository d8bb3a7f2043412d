-- `read_c::get_indexed` meets its contract: what is handed in is tested, a table of another length is refused, else the read is by the table. Assumes nothing.
use mathlib.Core.Path.{sym, ◌∙◌}
use mathlib.Core.Option.{some}
use Rattle.contracts.proofs.Refusing.{key_not_32, key_not_as_many}
use Rattle.read.proofs.Answers.{key_as_many}
use Rattle.meaning.proofs.Told.{exported_as, exported_refusal}
use Rattle.read_c.proofs.get_indexed.Goals as goal

pub returns-then-key-ne32 : goal.returns-then-key-ne32
returns-then-key-ne32 c =
    let a = c.args in
    record { exported = rw (c.from.ensures, c.number.ensures) (exported_refusal (key_not_32 a.store.now (some a.index.now) a.version a.key.now c.if-key-ne32.true)) }

pub returns-then-not-as_many : goal.returns-then-not-as_many
returns-then-not-as_many c =
    let a = c.args in
    record {
      exported = rw (c.from-then-not-as_many.ensures, c.number-then-not-as_many.ensures) (exported_refusal
          (key_not_as_many a.store.now a.index.now a.version a.key.now c.if-key-ne32.false (sym c.as_many.ensures ∙ c.if-not-as_many.true)));
    }

pub returns : goal.returns
returns c =
    let a = c.args in
    record {
      exported = exported_as (key_as_many a.store.now a.index.now a.version a.key.now c.if-key-ne32.false (sym c.as_many.ensures ∙ c.if-not-as_many.false))
          c.get_by.ensures;
    }
