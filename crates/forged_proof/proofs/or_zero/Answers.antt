-- `forged_proof::or_zero` meets its contract: the nodes are searched where nothing was named. Assumes nothing.
use mathlib.Core.Path.{sym, ◌∙◌}
use Rattle.forged_nodes.specs.Nodes.{named_says}
use Rattle.forged_path.specs.Along.{nodes_in}
use Rattle.forged_proof.proofs.Parts.{something_first, zero_after}
use Rattle.forged_proof.proofs.or_zero.Goals as goal

pub returns-then-not-is_nothing : goal.returns-then-not-is_nothing
returns-then-not-is_nothing c =
    let a = c.args in
    something_first (nodes_in a.version a.store.now) (named_says a.named)
    (sym c.is_nothing.ensures ∙ c.if-not-is_nothing.true)

pub zero_node-requires : goal.zero_node-requires
zero_node-requires c = c.requires

pub returns : goal.returns
returns c =
    let a = c.args in
    c.zero_node.ensures
    ∙ zero_after (nodes_in a.version a.store.now) (named_says a.named) (sym c.is_nothing.ensures ∙ c.if-not-is_nothing.false)
