-- `forged_proof::on_two` meets its contract: the second path is taken where the first names nothing. Assumes nothing.
use mathlib.Core.Path.{ap, sym, ◌∙◌}
use Rattle.forged_path.specs.Along.{nodes_in, is_nothing}
use Rattle.forged_proof.proofs.Parts.{on_first, on_second}
use Rattle.forged_proof.proofs.on_two.Goals as goal

pub on_path-named-requires : goal.on_path-named-requires
on_path-named-requires c = (c.requires.0, c.requires.1)

pub returns-then-not-is_nothing : goal.returns-then-not-is_nothing
returns-then-not-is_nothing c =
    let a = c.args in
    c.on_path-named.ensures
    ∙ on_first (nodes_in a.version a.store.now) a.l.now a.r.now
    (sym (ap is_nothing c.on_path-named.ensures) ∙ sym c.is_nothing.ensures ∙ c.if-not-is_nothing.true)

pub on_path-requires : goal.on_path-requires
on_path-requires c = (c.requires.0, c.requires.2)

pub returns : goal.returns
returns c =
    let a = c.args in
    c.on_path.ensures
    ∙ on_second (nodes_in a.version a.store.now) a.l.now a.r.now
    (sym (ap is_nothing c.on_path-named.ensures) ∙ sym c.is_nothing.ensures ∙ c.if-not-is_nothing.false)
