-- `store::child_count_at` meets its contract: the count of a child of slot i, by its place in the store. Assumes nothing.
use mathlib.Core.Path.{ap, ap₂, sym, subst, ◌∙◌}
use native.Mathlib.Omega.{arith}
use Rattle.terms.specs.Records.{count_on}
use Rattle.layout.specs.Sizes.{slot_size, slot_at}
use Rattle.layout.specs.Slots.{counts_in}
use Rattle.layout.specs.Stores.{slot_in, SlotWithin}
use Rattle.store.proofs.Slots.{count_plain, left_count, right_count}
use Rattle.store.proofs.child_count_at.Goals as goal

pub get_u32-requires : goal.get_u32-requires
get_u32-requires c = omega (arith, ap slot_size c.in-Counted.is)

pub returns-then-right : goal.returns-then-right
returns-then-right c =
    let a = c.args in
    let e = c.in-Counted.is in
    c.get_u32.ensures ∙ right_count a.i a.store.now (c.slot_start-at.ensures.0 ∙ ap (λ f. slot_at f a.i) e)
    ∙ ap₂ (λ f b. count_on b (counts_in (slot_in f a.i a.store.now))) (sym e) (sym c.if-right.true)

pub get_u32-requires-in-Counted : goal.get_u32-requires-in-Counted
get_u32-requires-in-Counted c = omega (arith, ap slot_size c.in-Counted.is)

pub returns-in-Plain : goal.returns-in-Plain
returns-in-Plain c =
    let a = c.args in
    let e = c.in-Plain.is in
    sym (ap (λ f. count_on a.right (counts_in (slot_in f a.i a.store.now))) e ∙ count_plain a.i a.store.now (subst (λ f. SlotWithin f a.i a.store.now) e c.requires) a.right)

pub returns-else-right : goal.returns-else-right
returns-else-right c =
    let a = c.args in
    let e = c.in-Counted.is in
    c.get_u32-in-Counted.ensures ∙ left_count a.i a.store.now (c.slot_start-at.ensures.0 ∙ ap (λ f. slot_at f a.i) e)
    ∙ ap₂ (λ f b. count_on b (counts_in (slot_in f a.i a.store.now))) (sym e) (sym c.if-right.false)
