-- `forged_path::at_message` meets its contract: its own hash is looked at first, then the nodes. Assumes nothing.
use mathlib.Core.Path.{sym, ◌∙◌}
use Rattle.forged_message.specs.Parts.{message_bytes}
use Rattle.forged_path.specs.Along.{nodes_in}
use Rattle.forged_path.proofs.Upwards.{zero_named, not_zero_lem}
use Rattle.forged_path.proofs.at_message.Goals as goal

pub returns-then-hashes_to_zero : goal.returns-then-hashes_to_zero
returns-then-hashes_to_zero c =
    let a = c.args in
    zero_named (nodes_in a.version a.store.now) a.m (sym c.hashes_to_zero.ensures ∙ c.if-hashes_to_zero.true)

pub partner-requires : goal.partner-requires
partner-requires c = c.requires

pub returns : goal.returns
returns c =
    let a = c.args in
    c.partner.ensures
    ∙ sym (not_zero_lem (nodes_in a.version a.store.now) (message_bytes a.m) (sym c.hashes_to_zero.ensures ∙ c.if-hashes_to_zero.false))
