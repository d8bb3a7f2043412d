-- `store::child_version_at` meets its contract: the version of a child of slot i, by its place in the store. Assumes nothing.
use mathlib.Core.Path.{ap, sym, ◌∙◌}
use native.Mathlib.Omega.{arith}
use Rattle.layout.specs.Sizes.{left_at, right_at}
use Rattle.layout.specs.Slots.{child_in, kid_on}
use Rattle.layout.specs.Stores.{slot_in}
use Rattle.store.proofs.Slots.{field_at}
use Rattle.store.proofs.child_version_at.Goals as goal

pub returns-then-right : goal.returns-then-right
unfolding child_in
returns-then-right c =
    let a = c.args in
    c.get_u32.ensures ∙ field_at a.form a.i right_at 4 a.store.now c.slot_start-at.ensures.0 (omega arith) ∙ ap (λ b. (kid_on b (slot_in a.form a.i a.store.now)).version) (sym c.if-right.true)

pub returns : goal.returns
unfolding child_in
returns c =
    let a = c.args in
    c.get_u32-2.ensures ∙ field_at a.form a.i left_at 4 a.store.now c.slot_start-at.ensures.0 (omega arith) ∙ ap (λ b. (kid_on b (slot_in a.form a.i a.store.now)).version) (sym c.if-right.false)
