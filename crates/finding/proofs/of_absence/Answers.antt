-- `finding::of_absence` meets its contract: the test of truth, then the search. Assumes nothing.
use mathlib.Core.Path.{sym, ◌∙◌}
use Rattle.terms.specs.Records.{absence}
use Rattle.proofrecords.specs.ProofBytes.{absence_in}
use Rattle.forged_nodes.specs.Nodes.{named_says}
use Rattle.forged_truth.proofs.Reading.{sound_size}
use Rattle.finding.proofs.Answering.{truth_told, lie_searched}
use Rattle.finding.proofs.of_absence.Goals as goal

pub returns-then-absence_true : goal.returns-then-absence_true
unfolding named_says
returns-then-absence_true c =
    let a = c.args in
    truth_told a.store.now a.version (absence (absence_in a.proof.now)) (sym c.absence_true.ensures ∙ c.if-absence_true.true)

pub in_absence-requires : goal.in_absence-requires
in_absence-requires c = (sound_size c.requires.0.sound, c.requires.1)

pub returns : goal.returns
returns c =
    let a = c.args in
    lie_searched a.store.now a.version (absence (absence_in a.proof.now)) (sym c.absence_true.ensures ∙ c.if-absence_true.false) c.in_absence.ensures
