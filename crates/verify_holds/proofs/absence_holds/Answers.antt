-- `verify_holds::absence_holds` meets its contract: the key, then the neighbours. Assumes nothing.
use mathlib.Core.Path.{sym, ◌∙◌}
use Rattle.proofrecords.specs.ProofBytes.{absence_in}
use Rattle.proofrecords.proofs.Forms.{absence_head_lem}
use Rattle.verify_holds.proofs.absence_holds.Goals as goal

pub is_of-requires : goal.is_of-requires
is_of-requires c = absence_head_lem c.args.proof.now c.requires.proof_value

pub returns-then-not-is_of : goal.returns-then-not-is_of
unfolding absence_in
returns-then-not-is_of c = rw (sym c.is_of.ensures ∙ c.if-not-is_of.true)

pub neighbours_hold-requires : goal.neighbours_hold-requires
neighbours_hold-requires c = record { proof_value = c.requires.proof_value; around = c.requires.around (sym c.is_of.ensures ∙ c.if-not-is_of.false) }

pub returns : goal.returns
unfolding absence_in
returns c = rw (sym c.is_of.ensures ∙ c.if-not-is_of.false) c.neighbours_hold.ensures
