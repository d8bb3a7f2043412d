-- `rescue_look::weighs` meets its contract: nothing found has no leaves, a record has those it says. Assumes nothing.
use mathlib.Core.Path.{subst}
use Rattle.store.proofs.Slots.{slot_within}
use Rattle.rescue_look.specs.Look.{Inside}
use Rattle.rescue_look.proofs.Looking.{weighs_nothing, weighs_found}
use Rattle.rescue_look.proofs.weighs.Goals as goal

pub child_count_at-count-requires : goal.child_count_at-count-requires
child_count_at-count-requires c = slot_within c.requires.0

pub returns-in_default : goal.returns-in_default
returns-in_default c = weighs_nothing c.args.source.now c.args.i c.args.right c.child_count_at-count.ensures c.in_default.is

pub weight_at-requires : goal.weight_at-requires
weight_at-requires c = subst (Inside c.args.source.now) c.in-Some.is c.requires.1

pub returns : goal.returns
returns c = weighs_found c.args.source.now c.args.i c.args.right c.child_count_at-count.ensures c.in-Some.is c.weight_at.ensures.0
