-- `message_lent::leaf_fits` meets its contract: the key, then the value. Assumes nothing.
use mathlib.Core.Path.{sym, ◌∙◌}
use Rattle.proofrecords.specs.ProofBytes.{presence_in}
use Rattle.proofrecords.proofs.Forms.{presence_whole}
use Rattle.message_lent.proofs.Lengths.{leaf_off, leaf_on_lem}
use native.Mathlib.Omega.{arith}
use Rattle.message_lent.proofs.leaf_fits.Goals as goal

pub hashes_to-requires : goal.hashes_to-requires
hashes_to-requires c = omega (arith, presence_whole c.args.p.now c.requires)

pub returns-then-not-hashes_to : goal.returns-then-not-hashes_to
unfolding presence_in
returns-then-not-hashes_to c = let a = c.args in leaf_off a.key.now a.value.now (presence_in a.p.now) (sym c.hashes_to.ensures ∙ c.if-not-hashes_to.true)

pub hashes_to-requires-2 : goal.hashes_to-requires-2
hashes_to-requires-2 c = omega (arith, presence_whole c.args.p.now c.requires)

pub returns : goal.returns
unfolding presence_in
returns c = let a = c.args in leaf_on_lem a.key.now a.value.now (presence_in a.p.now) (sym c.hashes_to.ensures ∙ c.if-not-hashes_to.false) c.hashes_to-2.ensures
