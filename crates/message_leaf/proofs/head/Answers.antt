-- `message_leaf::head` meets its contract: key, value and leaf op one after the other. Assumes nothing.
use mathlib.Core.Path.{◌≡◌, sym, ◌∙◌}
use Rattle.std.specs.Prelude.{None}
use Rattle.hash.proofs.Digits.{all_bytes}
use Rattle.terms.specs.Fields.{slice}
use Rattle.message_fields.proofs.Fields.{stands_as}
use Rattle.message_leaf.proofs.Heads.{heads_none, no_key, no_value, no_op, other_op, heads_there}
use native.Mathlib.Omega.{arith}
use Rattle.message_leaf.proofs.head.Goals as goal

pub returns-in_err-key : goal.returns-in_err-key
returns-in_err-key c =
    let gone : c.from_residual.result ≡ None = grind arith in
    rw gone (heads_none (no_key (stands_as c.in_err-key.was c.field.ensures)))

pub field-requires-2 : goal.field-requires-2
field-requires-2 c = ((c.field.ensures.inside c.in_ok-key.key c.in_ok-key.was).2, omega arith)

pub returns-in_err-value : goal.returns-in_err-value
returns-in_err-value c =
    let gone : c.from_residual-in_err-value.result ≡ None = grind arith in
    rw gone (heads_none (no_value (stands_as c.in_ok-key.was c.field.ensures) (stands_as c.in_err-value.was c.field-2.ensures)))

pub field-requires-3 : goal.field-requires-3
field-requires-3 c = ((c.field-2.ensures.inside c.in_ok-value.value c.in_ok-value.was).2, omega arith)

pub returns-in_err-op : goal.returns-in_err-op
returns-in_err-op c =
    let gone : c.from_residual-in_err-op.result ≡ None = grind arith in
    rw gone (heads_none (no_op (stands_as c.in_ok-key.was c.field.ensures) (stands_as c.in_ok-value.was c.field-2.ensures) (stands_as c.in_err-op.was c.field-3.ensures)))

pub slice_bounds-same-count : goal.slice_bounds-same-count
slice_bounds-same-count c = omega (arith, (c.field-3.ensures.inside c.in_ok-op.op c.in_ok-op.was).1)

pub slice_bounds-same-start : goal.slice_bounds-same-start
slice_bounds-same-start c = let i = c.field-3.ensures.inside c.in_ok-op.op c.in_ok-op.was in omega (arith, i.1, i.2)

pub slice_bounds-same-end : goal.slice_bounds-same-end
slice_bounds-same-end c = omega (arith, (c.field-3.ensures.inside c.in_ok-op.op c.in_ok-op.was).2)

pub returns-then-not-same : goal.returns-then-not-same
unfolding slice
returns-then-not-same c =
    heads_none
    (other_op (all_bytes c.args.x.now (λ i. omega (arith, c.shared_slice_known-1.given i))) (stands_as c.in_ok-key.was c.field.ensures)
    (stands_as c.in_ok-value.was c.field-2.ensures) (stands_as c.in_ok-op.was c.field-3.ensures) (sym c.same.ensures ∙ c.if-not-same.true))

pub returns : goal.returns
unfolding slice
returns c =
    heads_there (all_bytes c.args.x.now (λ i. omega (arith, c.shared_slice_known-1.given i))) (stands_as c.in_ok-key.was c.field.ensures)
    (stands_as c.in_ok-value.was c.field-2.ensures) (stands_as c.in_ok-op.was c.field-3.ensures) (sym c.same.ensures ∙ c.if-not-same.false)
