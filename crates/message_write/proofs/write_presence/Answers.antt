-- `message_write::write_presence` meets its contract: 15, else the message. Assumes nothing.
use mathlib.Core.Path.{sym, ◌∙◌}
use lib.ListN.{length}
use Rattle.proofrecords.specs.ProofBytes.{presence_in}
use Rattle.proofrecords.proofs.Forms.{presence_whole}
use Rattle.message_lent.specs.Lent.{leaf}
use Rattle.message_write.proofs.Lending.{writes_15, writes_same, asked_off, leaf_off, leaf_over, presence_fits, lendable}
use native.Mathlib.Omega.{arith}
use Rattle.message_write.proofs.write_presence.Goals as goal

pub hashes_to-requires : goal.hashes_to-requires
hashes_to-requires c = omega (arith, presence_whole c.args.p.now c.requires)

pub returns-then-not-hashes_to : goal.returns-then-not-hashes_to
unfolding presence_in
returns-then-not-hashes_to c =
    let a = c.args in
    writes_15 (asked_off a.asked.now (leaf a.key1.now a.value1.now) (leaf a.key2.now a.value2.now) (length a.room.now) (presence_in a.p.now) (sym c.hashes_to.ensures ∙ c.if-not-hashes_to.true))

pub returns-then-not-leaf_fits : goal.returns-then-not-leaf_fits
unfolding presence_in
returns-then-not-leaf_fits c =
    let a = c.args in
    writes_15 (leaf_off a.asked.now (leaf a.key1.now a.value1.now) (leaf a.key2.now a.value2.now) (length a.room.now) (presence_in a.p.now) (sym c.hashes_to.ensures ∙ c.if-not-hashes_to.false) (sym c.leaf_fits.ensures ∙ c.if-not-leaf_fits.true))

pub returns-then-not-unlent : goal.returns-then-not-unlent
unfolding presence_in
returns-then-not-unlent c =
    let a = c.args in
    writes_15 (leaf_over a.asked.now (leaf a.key1.now a.value1.now) (leaf a.key2.now a.value2.now) (length a.room.now) (presence_in a.p.now) (sym c.hashes_to.ensures ∙ c.if-not-hashes_to.false) (sym c.leaf_fits.ensures ∙ c.if-not-leaf_fits.false) (sym c.unlent.ensures ∙ c.if-not-unlent.true))

pub write_exist-requires : goal.write_exist-requires
write_exist-requires c = let a = c.args in (c.requires, lendable a.key1.now a.value1.now (presence_in a.p.now) (sym c.leaf_fits.ensures ∙ c.if-not-leaf_fits.false))

pub returns : goal.returns
unfolding presence_in
returns c =
    let a = c.args in
    writes_same (presence_fits a.asked.now (leaf a.key1.now a.value1.now) (leaf a.key2.now a.value2.now) (length a.room.now) (presence_in a.p.now) (sym c.hashes_to.ensures ∙ c.if-not-hashes_to.false) (sym c.leaf_fits.ensures ∙ c.if-not-leaf_fits.false) (sym c.unlent.ensures ∙ c.if-not-unlent.false)) c.write_exist.ensures
