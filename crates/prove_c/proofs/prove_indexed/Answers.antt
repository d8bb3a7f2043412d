-- `prove_c::prove_indexed` meets its contract: what is handed in is tested, a table of another length is refused, else the read is by the table. Assumes nothing.
use mathlib.Core.Path.{sym, ◌∙◌}
use lib.ListN.{length}
use Rattle.prove.proofs.Answering.{prove_as_many, prove_not_as_many, prove_wrong_key}
use Rattle.prove_c.proofs.Exported.{proof_as, proof_refusal, proof_told}
use Rattle.prove_c.proofs.prove_indexed.Goals as goal

pub returns-then-key-ne32 : goal.returns-then-key-ne32
returns-then-key-ne32 c =
    let a = c.args in
    rw (c.from.ensures, c.number.ensures) (proof_told (proof_refusal 12 a.room.now a.length.now (prove_wrong_key a.store.now a.index.now a.version a.key.now (length a.room.now) c.if-key-ne32.true)))

pub returns-then-not-as_many : goal.returns-then-not-as_many
returns-then-not-as_many c =
    let a = c.args in
    rw (c.from-then-not-as_many.ensures, c.number-then-not-as_many.ensures) (proof_told (proof_refusal 1 a.room.now a.length.now
    (prove_not_as_many a.store.now a.index.now a.version a.key.now (length a.room.now) c.if-key-ne32.false (sym c.as_many.ensures ∙ c.if-not-as_many.true))))

pub returns : goal.returns
returns c =
    let a = c.args in
    proof_told (proof_as (prove_as_many a.store.now a.index.now a.version a.key.now (length a.room.now) c.if-key-ne32.false (sym c.as_many.ensures ∙ c.if-not-as_many.false))
    c.prove_by.ensures)
