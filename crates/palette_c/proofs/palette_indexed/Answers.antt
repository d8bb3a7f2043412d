-- `palette_c::palette_indexed` meets its contract: what is handed in is tested, a table of another length is refused, else the read is by the table. Assumes nothing.
use mathlib.Core.Path.{sym, ◌∙◌}
use mathlib.Core.Option.{some}
use lib.ListN.{length}
use Rattle.palette.proofs.Answering.{palette_as_many, palette_not_as_many}
use Rattle.contracts.proofs.Refusing.{list_torn}
use Rattle.palette_c.proofs.Exported.{palette_as, palette_refusal, palette_told}
use Rattle.palette_c.proofs.palette_indexed.Goals as goal

pub returns-then-not-whole_keys : goal.returns-then-not-whole_keys
returns-then-not-whole_keys c =
    let a = c.args in
    rw (c.from.ensures, c.number.ensures) (palette_told (palette_refusal 12 a.room.now a.length.now (list_torn a.store.now (some a.index.now) a.version a.keys.now (length a.room.now) (sym c.whole_keys.ensures ∙ c.if-not-whole_keys.true))))

pub returns-then-not-as_many : goal.returns-then-not-as_many
returns-then-not-as_many c =
    let a = c.args in
    rw (c.from-then-not-as_many.ensures, c.number-then-not-as_many.ensures) (palette_told (palette_refusal 1 a.room.now a.length.now
    (palette_not_as_many a.store.now a.index.now a.version a.keys.now (length a.room.now) (sym c.whole_keys.ensures ∙ c.if-not-whole_keys.false) (sym c.as_many.ensures ∙ c.if-not-as_many.true))))

pub returns : goal.returns
returns c =
    let a = c.args in
    palette_told (palette_as (palette_as_many a.store.now a.index.now a.version a.keys.now (length a.room.now) (sym c.whole_keys.ensures ∙ c.if-not-whole_keys.false) (sym c.as_many.ensures ∙ c.if-not-as_many.false))
    c.palette_by.ensures)
