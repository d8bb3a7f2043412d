-- `finding::found_kept` meets its contract: 14, then the proof. Assumes nothing.
use mathlib.Core.Path.{sym, ◌∙◌}
use Rattle.proofrecords.specs.ProofBytes.{proof_in}
use Rattle.finding.proofs.Answering.{none_held, some_held}
use Rattle.finding.proofs.found_kept.Goals as goal

pub holds_none-requires : goal.holds_none-requires
holds_none-requires c = c.requires.0

pub returns-then-holds_none : goal.returns-then-holds_none
returns-then-holds_none c =
    let a = c.args in
    none_held a.store.now a.version a.key.now (proof_in a.proof.now) (sym c.holds_none.ensures ∙ c.if-holds_none.true)

pub returns : goal.returns
returns c =
    let a = c.args in
    some_held a.store.now a.version a.key.now (proof_in a.proof.now) (sym c.holds_none.ensures ∙ c.if-holds_none.false) c.found_against.ensures
