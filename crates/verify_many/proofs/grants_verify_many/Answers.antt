-- `verify_many::grants_verify_many` meets its contract. 12, 10, 9, or the answers. Assumes nothing.
use native.Mathlib.Omega.{arith}
use mathlib.Core.Path.{sym, subst, ◌∙◌}
use borrow.Author.Rules.{rules}
use Rattle.terms.specs.Bits.{Byte, All}
use Rattle.terms.proofs.Lists.{all_of}
use Rattle.verify_cut.specs.Row.{GatheredAs}
use Rattle.verify_many.proofs.Call.{whole_sizes, plan_known, refuses, root_off, keys_off, row_off, no_room, accepts, root_whole}
use Rattle.verify_many.proofs.grants_verify_many.Goals as goal

pub returns-then-root-ne32 : goal.returns-then-root-ne32
returns-then-root-ne32 c =
    let given-bytes : All Byte c.args.proofs.now = all_of Byte c.args.proofs.now 0 (λ i _. omega (arith, c.shared_slice_known-3-1.given i)) in
    let a = c.args in
    rw c.number.ensures (refuses a.root.now a.keys.now a.proofs.now a.answers.now given-bytes 12 (root_off a.root.now a.keys.now a.proofs.now a.answers.now c.if-root-ne32.true))

pub returns-then-not-whole_keys : goal.returns-then-not-whole_keys
returns-then-not-whole_keys c =
    let given-bytes : All Byte c.args.proofs.now = all_of Byte c.args.proofs.now 0 (λ i _. omega (arith, c.shared_slice_known-3-1.given i)) in
    let a = c.args in
    rw c.number-then-not-whole_keys.ensures (refuses a.root.now a.keys.now a.proofs.now a.answers.now given-bytes 12
    (keys_off a.root.now a.keys.now a.proofs.now a.answers.now c.if-root-ne32.false (sym c.whole_keys.ensures ∙ c.if-not-whole_keys.true)))

pub gather-requires : goal.gather-requires
gather-requires c =
    let w = whole_sizes _ (sym c.whole_keys.ensures ∙ c.if-not-whole_keys.false) in
    (w.0, search rules, search rules)

pub returns-in_default : goal.returns-in_default
returns-in_default c =
    let given-bytes : All Byte c.args.proofs.now = all_of Byte c.args.proofs.now 0 (λ i _. omega (arith, c.shared_slice_known-3-1.given i)) in
    let a = c.args in
    rw c.number-in_default.ensures (refuses a.root.now a.keys.now a.proofs.now a.answers.now given-bytes 10
    (row_off a.root.now a.keys.now a.proofs.now a.answers.now c.if-root-ne32.false (sym c.whole_keys.ensures ∙ c.if-not-whole_keys.false) (subst (GatheredAs a.proofs.now _ _ _) c.in_default.is c.gather.ensures)))

pub overflow_mul-n : goal.overflow_mul-n
overflow_mul-n c =
    let w = whole_sizes _ (sym c.whole_keys.ensures ∙ c.if-not-whole_keys.false) in
    omega (arith, w.0)

pub returns-then-answers-n : goal.returns-then-answers-n
returns-then-answers-n c =
    let given-bytes : All Byte c.args.proofs.now = all_of Byte c.args.proofs.now 0 (λ i _. omega (arith, c.shared_slice_known-3-1.given i)) in
    let a = c.args in
    rw c.number-then-answers-n.ensures (refuses a.root.now a.keys.now a.proofs.now a.answers.now given-bytes 9
    (no_room a.root.now a.keys.now a.proofs.now a.answers.now c.if-root-ne32.false (sym c.whole_keys.ensures ∙ c.if-not-whole_keys.false) (subst (GatheredAs a.proofs.now _ _ _) c.in-Some.is c.gather.ensures).0 (omega arith)))

pub lead_many-requires : goal.lead_many-requires
lead_many-requires c =
    let w = whole_sizes _ (sym c.whole_keys.ensures ∙ c.if-not-whole_keys.false) in
    let q = (subst (GatheredAs c.args.proofs.now _ _ _) c.in-Some.is c.gather.ensures).1 in
    let f = q.few in
    (omega (arith, w.0), omega (arith, w.0), q.lie)

pub put_answers-requires : goal.put_answers-requires
put_answers-requires c =
    let w = whole_sizes _ (sym c.whole_keys.ensures ∙ c.if-not-whole_keys.false) in
    let g = subst (GatheredAs c.args.proofs.now _ _ _) c.in-Some.is c.gather.ensures in (
      w.0,
      w.1,
      omega (arith, c.if-answers-n.false),
      g.0,
      plan_known _ _ _ _ _ _ _ _ g.1 c.lead_many.ensures,
    )

pub returns : goal.returns
returns c =
    let given-bytes : All Byte c.args.proofs.now = all_of Byte c.args.proofs.now 0 (λ i _. omega (arith, c.shared_slice_known-3-1.given i)) in
    let a = c.args in
    let r = c.if-root-ne32.false in
    accepts a.root.now a.keys.now a.proofs.now a.answers.now r (sym c.whole_keys.ensures ∙ c.if-not-whole_keys.false)
    (subst (GatheredAs a.proofs.now _ _ _) c.in-Some.is c.gather.ensures).0 given-bytes _ _ (omega (arith, c.if-answers-n.false))
    (root_whole a.root.now _ r c.hash_at-top.ensures.result_value)
    (search rules)
    c.put_answers.ensures
