-- `slots_form::is_leaf` meets its contract: the tests of a leaf in their order. Assumes nothing.
use mathlib.Core.Path.{sym, ◌∙◌}
use Rattle.terms.specs.Fields.{slice}
use Rattle.terms.proofs.Fields.{test_passed, test_failed, test_last}
use Rattle.layout.specs.Slots.{leaf_in, head_right, is_leaf}
use Rattle.slots_form.proofs.is_leaf.Goals as goal

pub returns-then-not-head_right : goal.returns-then-not-head_right
unfolding is_leaf head_right leaf_in
returns-then-not-head_right c = sym (test_failed _ (sym c.head_right.ensures ∙ c.if-not-head_right.true))

pub returns : goal.returns
unfolding is_leaf head_right leaf_in slice
returns c = c.all_zero.ensures ∙ sym (test_passed _ (sym c.head_right.ensures ∙ c.if-not-head_right.false) ∙ test_last _)
