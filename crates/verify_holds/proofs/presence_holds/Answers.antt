-- `verify_holds::presence_holds` meets its contract: the key, then the path. Assumes nothing.
use native.Mathlib.Omega.{arith}
use mathlib.Core.Path.{sym, ◌∙◌}
use Rattle.proofrecords.specs.ProofBytes.{presence_in}
use Rattle.proofrecords.proofs.Forms.{presence_whole}
use Rattle.verify_holds.proofs.presence_holds.Goals as goal

pub is_of-requires : goal.is_of-requires
is_of-requires c = let w = presence_whole c.args.proof.now c.requires.proof_value in omega arith

pub returns-then-not-is_of : goal.returns-then-not-is_of
unfolding presence_in
returns-then-not-is_of c = rw (sym c.is_of.ensures ∙ c.if-not-is_of.true)

pub returns : goal.returns
unfolding presence_in
returns c =
    let k = sym c.is_of.ensures ∙ c.if-not-is_of.false in
    rw k (c.requires.good_value k)
