-- `check_tie::tie_slot` meets its contract: an inner record is tied on both sides, another slot has no children. Assumes nothing.
use mathlib.Core.Bool.{not}
use native.Mathlib.Omega.{arith}
use Prim.Native.Nat.{◌+◌, ◌*◌}
use mathlib.Core.Path.{refl, ap, ◌∙◌}
use Rattle.terms.specs.Bits.{Byte}
use Rattle.terms.proofs.Lists.{all_of}
use Rattle.hash.proofs.Laws.{read_whole}
use Rattle.layout.specs.Slots.{left_in, right_in}
use Rattle.store.proofs.Slots.{slot_within}
use Rattle.check_pass.proofs.Passes.{passed_so, pass_map}
use Rattle.check_pass.proofs.Records.{slot_small}
use Rattle.check_tie.proofs.Loops.{other_tied, inner_here, inner_tied, left_stored, right_stored}
use Rattle.check_tie.proofs.tie_slot.Goals as goal

pub kind_at-requires : goal.kind_at-requires
kind_at-requires c = slot_within c.requires.0

pub returns-then-kind_at-le-LEAF_KIND-clause-passed : goal.returns-then-kind_at-le-LEAF_KIND-clause-passed
returns-then-kind_at-le-LEAF_KIND-clause-passed c =
    other_tied c.requires.0 (all_of Byte c.args.store.now 0 (λ i _. omega (arith, c.shared_slice_known-1.given i)))
    c.kind_at.ensures c.if-kind_at-le-LEAF_KIND.true c.args.sums.now

pub slot_of-s-requires : goal.slot_of-s-requires
slot_of-s-requires c = slot_within c.requires.0

pub parent_in-parent-requires : goal.parent_in-parent-requires
parent_in-parent-requires c = (
  c.requires.0,
  inner_here c.requires.0
      (all_of Byte c.args.store.now 0 (λ i _. omega (arith, c.shared_slice_known-1.given i)))
      (c.requires.1.own c.args.j c.requires.0.inside) c.kind_at.ensures c.if-kind_at-le-LEAF_KIND.false,
)

pub child_version_at-left-requires : goal.child_version_at-left-requires
child_version_at-left-requires c = slot_within c.requires.0

pub child_version_at-right-requires : goal.child_version_at-right-requires
child_version_at-right-requires c = slot_within c.requires.0

pub child_count_at-lefts-requires : goal.child_count_at-lefts-requires
child_count_at-lefts-requires c = slot_within c.requires.0

pub child_count_at-rights-requires : goal.child_count_at-rights-requires
child_count_at-rights-requires c = slot_within c.requires.0

pub overflow_cast-number : goal.overflow_cast-number
overflow_cast-number c =
    let h = slot_small {s = c.args.store.now} c.requires.0 in
    omega (arith, h)

pub overflow_mul-number : goal.overflow_mul-number
overflow_mul-number c =
    let h = slot_small {s = c.args.store.now} c.requires.0 in
    omega (arith, h)

pub overflow_add-number : goal.overflow_add-number
overflow_add-number c =
    let h = slot_small {s = c.args.store.now} c.requires.0 in
    omega (arith, h)

pub tie_link-requires : goal.tie_link-requires
tie_link-requires c = (
  c.requires.1,
  c.parent_in-parent.ensures.fit,
  left_stored c.requires.0 (2 * c.args.j + 1) c.hash_at.result refl
      (read_whole c.hash_at.ensures.result_value c.child_hash.ensures.1
      (c.child_hash.ensures.0 ∙ ap (λ x. (left_in x).hash) c.slot_of-s.ensures.0)),
  c.requires.2,
)

pub overflow_add-to_right : goal.overflow_add-to_right
overflow_add-to_right c =
    let h = slot_small {s = c.args.store.now} c.requires.0 in
    omega (arith, h)

pub tie_link-requires-2 : goal.tie_link-requires-2
tie_link-requires-2 c = (
  c.requires.1,
  c.parent_in-parent.ensures.fit,
  right_stored c.requires.0 (2 * c.args.j + 1 + 1) c.hash_at-2.result
      (omega arith) (read_whole c.hash_at-2.ensures.result_value c.child_hash-2.ensures.1
      (c.child_hash-2.ensures.0 ∙ ap (λ x. (right_in x).hash) c.slot_of-s.ensures.0)),
  c.tie_link.ensures.known,
)

pub returns-clause-passed : goal.returns-clause-passed
returns-clause-passed c =
    let a = c.args in
    let both = inner_tied c.requires.0
    (all_of Byte c.args.store.now 0 (λ i _. omega (arith, c.shared_slice_known-1.given i)))
    (c.requires.1.own c.args.j c.requires.0.inside) c.kind_at.ensures c.if-kind_at-le-LEAF_KIND.false c.requires.1.keeps
    c.parent_in-parent.ensures (2 * a.j + 1) (2 * a.j + 1 + 1) c.child_version_at-left.result c.child_version_at-right.result
    c.child_version_at-left.ensures c.child_version_at-right.ensures c.hash_at.result c.hash_at-2.result
    (read_whole c.hash_at.ensures.result_value c.child_hash.ensures.1
    (c.child_hash.ensures.0 ∙ ap (λ x. (left_in x).hash) c.slot_of-s.ensures.0))
    (read_whole c.hash_at-2.ensures.result_value c.child_hash-2.ensures.1
    (c.child_hash-2.ensures.0 ∙ ap (λ x. (right_in x).hash) c.slot_of-s.ensures.0))
    c.child_count_at-lefts.result c.child_count_at-rights.result c.child_count_at-lefts.ensures c.child_count_at-rights.ensures a.sums.now
    c.tie_link.new.sums c.tie_link-2.new.sums
    (passed_so c.tie_link.result (ap not c.if-not-tie_link.false) c.tie_link.ensures.passed) in
    pass_map c.tie_link-2.result both c.tie_link-2.ensures.passed
