-- `verify_form::is_absence` meets its contract: each test is one of the definition's, and the last call is its last.
-- Assumes nothing.
use native.Mathlib.Omega.{arith}
use mathlib.Core.Path.{sym, ◌∙◌}
use borrow.Author.Tests.{ne_eqb, lt-leb}
use Rattle.terms.specs.Fields.{field}
use Rattle.proofrecords.specs.ProofBytes.{flags}
use Rattle.proofrecords.proofs.Forms.{absence_off, absence_on}
use Rattle.verify_form.proofs.is_absence.Goals as goal

pub returns-then-n-lt-ABSENCE_HEAD : goal.returns-then-n-lt-ABSENCE_HEAD
returns-then-n-lt-ABSENCE_HEAD c = sym (absence_off c.args.p.now 0 (lt-leb 40 _ c.if-n-lt-ABSENCE_HEAD.true))

pub returns-then-get_u32-n : goal.returns-then-get_u32-n
returns-then-get_u32-n c = sym (absence_off c.args.p.now 1 (ne_eqb _ _ (λ e. c.if-get_u32-n.true (c.get_u32.ensures ∙ e))))

pub returns-then-get_u16-ne-ABSENCE_KIND : goal.returns-then-get_u16-ne-ABSENCE_KIND
returns-then-get_u16-ne-ABSENCE_KIND c = sym (absence_off c.args.p.now 2 (ne_eqb _ _ (λ e. c.if-get_u16-ne-ABSENCE_KIND.true (c.get_u16.ensures ∙ e))))

pub returns-then-flags-eq0 : goal.returns-then-flags-eq0
unfolding flags
returns-then-flags-eq0 c =
    let x = c.args.p.now in
    sym (absence_off x 3 (lt-leb 1 (field 6 2 x) (omega (arith, c.get_u16-flags.ensures, c.if-flags-eq0.true))))

pub returns-then-flags-gt3 : goal.returns-then-flags-gt3
unfolding flags
returns-then-flags-gt3 c =
    let x = c.args.p.now in
    sym (absence_off x 4 (lt-leb (field 6 2 x) 3 (rw (← c.get_u16-flags.ensures) c.if-flags-gt3.true)))

pub returns : goal.returns
unfolding flags
returns c =
    let x = c.args.p.now in
    let e = c.get_u16-flags.ensures in
    let f = sym c.get_u32.ensures ∙ c.if-get_u32-n.false in
    let g = sym c.get_u16.ensures ∙ c.if-get_u16-ne-ABSENCE_KIND.false in
    c.neighbours_fit.ensures
    ∙ sym (absence_on x c.if-n-lt-ABSENCE_HEAD.false f g (omega (arith, e, c.if-flags-eq0.false)) (rw (← e) c.if-flags-gt3.false))
