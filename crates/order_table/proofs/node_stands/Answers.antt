-- `order_table::node_stands` meets its contract: its key is that of slot j's bytes. Assumes nothing.
use mathlib.Core.Path.{ap, ◌∙◌, subst}
use Rattle.terms.specs.declared.Form.TheVariants.{Counted as counted}
use Rattle.layout.specs.Slots.{count_in, bits_in, version_in}
use Rattle.layout.specs.Stores.{slot_in}
use Rattle.store.proofs.Slots.{slot_within}
use Rattle.order_look.specs.Looks.{Stands}
use Rattle.order_look.proofs.Keys.{all_same}
use Rattle.order_table.proofs.node_stands.Goals as goal

pub count_at-requires : goal.count_at-requires
count_at-requires c = slot_within c.requires.1.0

pub version_at-version-requires : goal.version_at-version-requires
version_at-version-requires c = slot_within c.requires.1.0

pub slot_of-requires : goal.slot_of-requires
slot_of-requires c = slot_within c.requires.1.0

pub returns : goal.returns
returns c =
    let a = c.args in
    let x = slot_in counted a.j a.store.now in
    subst (Stands c.compared.result (slot_in counted a.i a.store.now))
    (all_same _ (count_in x) _ (bits_in x) _ (version_in x) (c.wide-count.ensures.0 ∙ c.count_at.ensures)
    (c.bits_of-bits.ensures.0 ∙ ap bits_in c.slot_of.ensures.0) c.version_at-version.ensures)
    c.compared.ensures
