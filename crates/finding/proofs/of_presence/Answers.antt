-- `finding::of_presence` meets its contract: the test of truth, then the search. Assumes nothing.
use mathlib.Core.Path.{sym, ◌∙◌}
use Rattle.terms.specs.Records.{presence}
use Rattle.proofrecords.specs.ProofBytes.{presence_in}
use Rattle.forged_nodes.specs.Nodes.{named_says}
use Rattle.forged_truth.proofs.Reading.{sound_size}
use Rattle.finding.proofs.Answering.{truth_told, lie_searched}
use Rattle.finding.proofs.of_presence.Goals as goal

pub returns-then-presence_true : goal.returns-then-presence_true
unfolding named_says
returns-then-presence_true c =
    let a = c.args in
    truth_told a.store.now a.version (presence (presence_in a.proof.now)) (sym c.presence_true.ensures ∙ c.if-presence_true.true)

pub in_presence-requires : goal.in_presence-requires
in_presence-requires c = (sound_size c.requires.0.sound, c.requires.1)

pub returns : goal.returns
returns c =
    let a = c.args in
    lie_searched a.store.now a.version (presence (presence_in a.proof.now)) (sym c.presence_true.ensures ∙ c.if-presence_true.false) c.in_presence.ensures
