-- `apply_read::onward_from` meets its contract, by what was found and what its bytes are. Assumes nothing.
use mathlib.Core.Path.{refl, sym, ap, ◌∙◌, subst}
use Rattle.layout.specs.Slots.{is_leaf}
use Rattle.apply_read.specs.Held.{UsedAt, GoesOn}
use Rattle.apply_read.proofs.Held.{slot_there, ends_held, goes_held}
use Rattle.apply_read.proofs.onward_from.Goals as goal

pub returns-in_default : goal.returns-in_default
returns-in_default c = subst (λ f. GoesOn c.args.store.now f _) (sym c.in_default.is) refl

pub slot_of-s-requires : goal.slot_of-s-requires
slot_of-s-requires c = slot_there (subst (UsedAt c.args.store.now) c.in-Some.is c.requires)

pub returns-then-is_leaf : goal.returns-then-is_leaf
returns-then-is_leaf c = ends_held (subst (UsedAt c.args.store.now) c.in-Some.is c.requires) refl c.in-Some.is (c.is_leaf.ensures ∙ ap is_leaf c.slot_of-s.ensures.0) c.if-is_leaf.true

pub child_version_at-left-requires : goal.child_version_at-left-requires
child_version_at-left-requires c = slot_there (subst (UsedAt c.args.store.now) c.in-Some.is c.requires)

pub child_version_at-right-requires : goal.child_version_at-right-requires
child_version_at-right-requires c = slot_there (subst (UsedAt c.args.store.now) c.in-Some.is c.requires)

pub returns : goal.returns
returns c = goes_held (subst (UsedAt c.args.store.now) c.in-Some.is c.requires) refl c.in-Some.is (c.is_leaf.ensures ∙ ap is_leaf c.slot_of-s.ensures.0) c.if-is_leaf.false c.child_version_at-left.ensures c.child_version_at-right.ensures
