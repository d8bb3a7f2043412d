-- `forged_truth::presence_true` meets its contract: a presence proof shows one leaf. Assumes nothing.
use mathlib.Core.Path.{◌∙◌}
use Rattle.proofrecords.specs.ProofBytes.{presence_in}
use Rattle.forged_truth.specs.Truth.{grants_at}
use Rattle.forged_truth.proofs.Parts.{leaf_decides}
use Rattle.forged_truth.proofs.presence_true.Goals as goal

pub returns : goal.returns
returns c =
    let a = c.args in
    c.leaf_true.ensures ∙ leaf_decides (grants_at a.store.now a.version) (presence_in a.p.now)
