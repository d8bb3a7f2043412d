-- `verify_form::is_presence` meets its contract: each test is one of the definition's, and the last call is its last.
-- Assumes nothing.
use Prim.Native.Nat.{ℕ, ◌+◌, ◌*◌}
use mathlib.Core.Path.{ap, sym, ◌∙◌}
use lib.ListN.{length, drop}
use borrow.Author.Tests.{ne_eqb, lt-leb}
use Rattle.terms.specs.Fields.{field}
use Rattle.proofrecords.specs.ProofBytes.{sides_right, step_count}
use Rattle.proofrecords.proofs.Forms.{presence_off, presence_on}
use Rattle.verify_form.proofs.is_presence.Goals as goal

pub returns-then-n-lt-PRESENCE_HEAD : goal.returns-then-n-lt-PRESENCE_HEAD
returns-then-n-lt-PRESENCE_HEAD c = sym (presence_off c.args.p.now 0 (lt-leb 72 _ c.if-n-lt-PRESENCE_HEAD.true))

pub returns-then-get_u32-n : goal.returns-then-get_u32-n
returns-then-get_u32-n c = sym (presence_off c.args.p.now 1 (ne_eqb _ _ (λ e. c.if-get_u32-n.true (c.get_u32.ensures ∙ e))))

pub returns-then-get_u16-ne-PRESENCE_KIND : goal.returns-then-get_u16-ne-PRESENCE_KIND
returns-then-get_u16-ne-PRESENCE_KIND c = sym (presence_off c.args.p.now 2 (ne_eqb _ _ (λ e. c.if-get_u16-ne-PRESENCE_KIND.true (c.get_u16.ensures ∙ e))))

pub returns-then-steps-gt-MOST_STEPS : goal.returns-then-steps-gt-MOST_STEPS
unfolding step_count
returns-then-steps-gt-MOST_STEPS c =
    let x = c.args.p.now in
    sym (presence_off x 3 (lt-leb (field 6 2 x) 256 (rw (← c.get_u16-steps.ensures) c.if-steps-gt-MOST_STEPS.true)))

pub returns-then-n-steps : goal.returns-then-n-steps
unfolding step_count
returns-then-n-steps c =
    let x = c.args.p.now in
    sym (presence_off x 4 (ne_eqb (length x) (72 + 33 * field 6 2 x) (rw (← c.get_u16-steps.ensures) c.if-n-steps.true)))

pub returns : goal.returns
unfolding step_count
returns c =
    let x = c.args.p.now in
    let e = c.get_u16-steps.ensures in
    let f = sym c.get_u32.ensures ∙ c.if-get_u32-n.false in
    let g = sym c.get_u16.ensures ∙ c.if-get_u16-ne-PRESENCE_KIND.false in
    c.sides_right.ensures ∙ ap (λ (n : ℕ). sides_right n (drop 72 x)) e
    ∙ sym (presence_on x c.if-n-lt-PRESENCE_HEAD.false f g (rw (← e) c.if-steps-gt-MOST_STEPS.false) (rw (← e) c.if-n-steps.false))
