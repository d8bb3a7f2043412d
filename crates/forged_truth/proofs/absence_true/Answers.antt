-- `forged_truth::absence_true` meets its contract: the key, then the neighbours. Assumes nothing.
use native.Mathlib.Omega.{arith}
use mathlib.Core.Path.{sym, ◌∙◌}
use Rattle.terms.specs.Fields.{slice}
use Rattle.proofrecords.specs.ProofBytes.{absence_in}
use Rattle.proofrecords.proofs.Forms.{absence_head_lem}
use Rattle.forged_truth.specs.Truth.{grants_at}
use Rattle.forged_truth.proofs.Parts.{key_there, neighbours_decide}
use Rattle.forged_truth.proofs.absence_true.Goals as goal

pub slice_bounds-lacks_key-end : goal.slice_bounds-lacks_key-end
slice_bounds-lacks_key-end c = let w = absence_head_lem c.args.p.now c.requires.1 in omega arith

pub returns-then-not-lacks_key : goal.returns-then-not-lacks_key
unfolding absence_in slice
returns-then-not-lacks_key c =
    let a = c.args in
    key_there (grants_at a.store.now a.version) a.p.now (sym c.lacks_key.ensures ∙ c.if-not-lacks_key.true)

pub returns : goal.returns
unfolding absence_in slice
returns c =
    let a = c.args in
    c.neighbours_true.ensures
    ∙ neighbours_decide (grants_at a.store.now a.version) a.p.now (sym c.lacks_key.ensures ∙ c.if-not-lacks_key.false)
