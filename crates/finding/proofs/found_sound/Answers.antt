-- `finding::found_sound` meets its contract: 8, then the version. Assumes nothing.
use mathlib.Core.Path.{sym, ◌∙◌}
use Rattle.proofrecords.specs.ProofBytes.{proof_in}
use Rattle.promises.proofs.Calls.{sound_long}
use Rattle.finding.proofs.Answering.{not_kept, kept_found, version_kept}
use Rattle.finding.proofs.found_sound.Goals as goal

pub is_kept-requires : goal.is_kept-requires
is_kept-requires c = sound_long c.requires.0

pub returns-then-not-is_kept : goal.returns-then-not-is_kept
returns-then-not-is_kept c =
    let a = c.args in
    not_kept a.store.now a.version a.key.now (proof_in a.proof.now) (sym c.is_kept.ensures ∙ c.if-not-is_kept.true)

pub found_kept-requires : goal.found_kept-requires
found_kept-requires c = (version_kept c.args.version c.requires.0 (sym c.is_kept.ensures ∙ c.if-not-is_kept.false), c.requires.1)

pub returns : goal.returns
returns c =
    let a = c.args in
    kept_found a.store.now a.version a.key.now (proof_in a.proof.now) (sym c.is_kept.ensures ∙ c.if-not-is_kept.false) c.found_kept.ensures
