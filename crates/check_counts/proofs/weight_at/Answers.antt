-- `check_counts::weight_at` meets its contract: by the kind of the record. Assumes nothing.
use native.Mathlib.Omega.{arith}
use Prim.Native.Nat.{◌+◌}
use mathlib.Core.Path.{ap₂, sym, ◌∙◌}
use Rattle.store.proofs.Slots.{slot_within}
use Rattle.check_counts.proofs.Weights.{leaf_weighs, inner_weighs}
use Rattle.check_counts.proofs.weight_at.Goals as goal

pub kind_at-requires : goal.kind_at-requires
kind_at-requires c = slot_within c.requires

pub returns-then-kind_at-eq-LEAF_KIND : goal.returns-then-kind_at-eq-LEAF_KIND
returns-then-kind_at-eq-LEAF_KIND c = (λ q e. leaf_weighs c.requires q e (sym c.kind_at.ensures ∙ c.if-kind_at-eq-LEAF_KIND.true), omega arith)

pub child_count_at-lefts-requires : goal.child_count_at-lefts-requires
child_count_at-lefts-requires c = slot_within c.requires

pub child_count_at-rights-requires : goal.child_count_at-rights-requires
child_count_at-rights-requires c = slot_within c.requires

pub returns : goal.returns
returns c = (
  λ q e. ap₂ ◌+◌ c.child_count_at-lefts.ensures c.child_count_at-rights.ensures
      ∙ inner_weighs c.requires q e (λ l. c.if-kind_at-eq-LEAF_KIND.false (c.kind_at.ensures ∙ l)),
  omega arith,
)
