-- `check_parents::could_name` meets its contract: one early return for each field. Assumes nothing.
use mathlib.Core.Path.{sym, ◌∙◌}
use borrow.Author.Tests.{eq-eqb, ne_eqb}
use Rattle.store.proofs.Slots.{slot_within}
use Rattle.check_parents.specs.Parents.{could_name}
use Rattle.check_parents.proofs.Naming.{could_be}
use Rattle.check_parents.proofs.could_name.Goals as goal

pub count_at-requires : goal.count_at-requires
count_at-requires c = slot_within c.requires

pub returns-then-count_at-up : goal.returns-then-count_at-up
unfolding could_name
returns-then-count_at-up c = sym (rw (ne_eqb _ _ (λ e. c.if-count_at-up.true (c.count_at.ensures ∙ e))))

pub child_version_at-requires : goal.child_version_at-requires
child_version_at-requires c = slot_within c.requires

pub returns-then-child_version_at-below : goal.returns-then-child_version_at-below
unfolding could_name
returns-then-child_version_at-below c =
    sym (rw (
      eq-eqb _ _ (sym c.count_at.ensures ∙ c.if-count_at-up.false),
      ne_eqb _ _
          (λ e. c.if-child_version_at-below.true (c.child_version_at.ensures ∙ e)),
    ))

pub slot_of-requires : goal.slot_of-requires
slot_of-requires c = slot_within c.requires

pub returns : goal.returns
returns c =
    could_be c.args.below _ c.slot_of.ensures.0 c.bits_of.ensures.0 (sym c.count_at.ensures ∙ c.if-count_at-up.false)
    (sym c.child_version_at.ensures ∙ c.if-child_version_at-below.false) c.same.ensures
