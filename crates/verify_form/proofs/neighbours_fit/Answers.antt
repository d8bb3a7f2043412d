-- `verify_form::neighbours_fit` meets its contract: by the flags, each neighbour is tested where it lies.
-- Assumes nothing.
use Prim.Native.Nat.{◌<◌}
use native.Mathlib.Omega.{arith}
use mathlib.Core.Path.{ap, sym, ◌∙◌}
use Rattle.proofrecords.specs.ProofBytes.{is_presence, left_length, flags}
use Rattle.proofrecords.proofs.Forms.{fit_one, fit_two, fit_short, rest_part, left_part_lem, right_part_lem}
use Rattle.verify_form.proofs.neighbours_fit.Goals as goal

pub returns-then-get_u16-le2 : goal.returns-then-get_u16-le2
unfolding flags
returns-then-get_u16-le2 c =
    let x = c.args.p.now in
    let e = c.get_u16.ensures in
    c.is_presence.ensures ∙ ap is_presence (rest_part 40 x) ∙ sym (fit_one x (rw (← e) c.if-get_u16-le2.true))

pub returns-then-n-lt-LEFT_LENGTH_END : goal.returns-then-n-lt-LEFT_LENGTH_END
unfolding flags
returns-then-n-lt-LEFT_LENGTH_END c =
    let two-flagged : 2 < flags c.args.p.now = rw (← c.get_u16.ensures) c.if-get_u16-le2.false in
    sym (fit_short c.args.p.now two-flagged (omega arith))

pub returns-then-n-e : goal.returns-then-n-e
unfolding left_length flags
returns-then-n-e c =
    let two-flagged : 2 < flags c.args.p.now = rw (← c.get_u16.ensures) c.if-get_u16-le2.false in
    sym (fit_short c.args.p.now two-flagged (omega arith))

pub returns-then-not-is_presence : goal.returns-then-not-is_presence
unfolding left_length flags
returns-then-not-is_presence c =
    let two-flagged : 2 < flags c.args.p.now = rw (← c.get_u16.ensures) c.if-get_u16-le2.false in
    let x = c.args.p.now in
    let e = c.get_u32.ensures in
    let l = sym (ap is_presence (left_part_lem _ x e)) ∙ sym c.is_presence-2.ensures ∙ c.if-not-is_presence.true in
    sym (fit_two x two-flagged ∙ rw l)

pub returns : goal.returns
unfolding left_length flags
returns c =
    let two-flagged : 2 < flags c.args.p.now = rw (← c.get_u16.ensures) c.if-get_u16-le2.false in
    let x = c.args.p.now in
    let e = c.get_u32.ensures in
    let l = sym (ap is_presence (left_part_lem _ x e)) ∙ sym c.is_presence-2.ensures ∙ c.if-not-is_presence.false in
    c.is_presence-3.ensures ∙ ap is_presence (right_part_lem _ x e) ∙ sym (fit_two x two-flagged ∙ rw l)
