-- `read_step::child_version` meets its contract: the version is what an inner record says of a child. Assumes nothing.
use mathlib.Core.Path.{ap, ◌∙◌}
use Rattle.terms.specs.declared.Form.TheVariants.{Counted as counted}
use Rattle.terms.specs.Records.{Child}
use Rattle.layout.specs.Stores.{slot_in}
use Rattle.store.proofs.Slots.{slot_fits}
use Rattle.read_step.specs.Walk.{kid_in}
use Rattle.read_step.proofs.Seeing.{kid_is}
use Rattle.read_step.proofs.child_version.Goals as goal

pub child_version_at-requires : goal.child_version_at-requires
child_version_at-requires c = let a = c.args in slot_fits _ a.store.now c.requires.0 a.i c.requires.1

pub returns : goal.returns
unfolding kid_in
returns c =
    let a = c.args in
    c.child_version_at.ensures ∙ ap (λ (k : Child). k.version) (kid_is a.right (slot_in counted a.i a.store.now))
