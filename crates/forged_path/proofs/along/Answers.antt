-- `forged_path::along` meets its contract: what all messages name, those from step i on name. Assumes nothing.
use Prim.Native.Nat.{◌+◌, ◌-◌}
use native.Mathlib.Omega.{arith}
use mathlib.Core.Path.{refl, ap, sym, ◌∙◌}
use Rattle.terms.specs.Fields.{slice}
use Rattle.sha256.specs.Sha256.{sha256}
use Rattle.proofrecords.specs.ProofBytes.{steps_in}
use Rattle.proofrecords.specs.Steps.{step_at}
use Rattle.proofrecords.proofs.Lying.{from_step}
use Rattle.forgery.specs.Messages.{parent_message, upwards}
use Rattle.forged_message.specs.Parts.{message_bytes}
use Rattle.forged_path.specs.Along.{nodes_in, looked, is_nothing}
use Rattle.forged_path.proofs.Upwards.{named_here, named_last, named_above, first_message, leaf_parts_lem}
use Rattle.forged_path.proofs.along.Goals as goal

pub loop-i-init : goal.loop-i-init
unfolding slice
loop-i-init c =
    let a = c.args in
    first_message (nodes_in a.version a.store.now) a.n a.p.now _
    (leaf_parts_lem a.p.now _ refl c.hash_at-first.ensures.result_value c.hash_at-second.ensures.result_value)

pub at_message-named-requires : goal.at_message-named-requires
at_message-named-requires c = c.requires.0

pub returns-then-not-is_nothing : goal.returns-then-not-is_nothing
returns-then-not-is_nothing c =
    let a = c.args in
    c.at_message-named.ensures
    ∙ sym (named_here (nodes_in a.version a.store.now) (message_bytes c.loop-i.m) c.loop-i.i a.n a.p.now
    (sym (ap is_nothing c.at_message-named.ensures) ∙ sym c.is_nothing.ensures ∙ c.if-not-is_nothing.true))
    ∙ c.loop-i.invariant

pub parent_message-m-requires : goal.parent_message-m-requires
parent_message-m-requires c =
    let h = c.loop-i-test.true in
    let r = c.requires.1 in
    omega arith

pub loop-i-preserved : goal.loop-i-preserved
loop-i-preserved c =
    let a = c.args in
    let nodes = nodes_in a.version a.store.now in
    let i = c.loop-i.i in
    ap (λ y. looked nodes (upwards sha256 y (steps_in (a.n - (i + 1)) (from_step (i + 1) a.p.now))))
    (c.parent_message-m.ensures ∙ ap (λ y. parent_message sha256 y (step_at i a.p.now)) c.hash_of.ensures)
    ∙ sym (named_above nodes (message_bytes c.loop-i.m) i a.n a.p.now
    (sym (ap is_nothing c.at_message-named.ensures) ∙ sym c.is_nothing.ensures ∙ c.if-not-is_nothing.false) c.loop-i-test.true)
    ∙ c.loop-i.invariant

pub at_message-requires : goal.at_message-requires
at_message-requires c = c.requires.0

pub returns : goal.returns
returns c =
    let a = c.args in
    c.at_message.ensures
    ∙ sym (named_last (nodes_in a.version a.store.now) (message_bytes c.loop-i.m) c.loop-i.i a.n a.p.now c.loop-i-test.false)
    ∙ c.loop-i.invariant
