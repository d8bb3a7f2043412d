-- `verify_plan::paths_of` meets its contract. By the form and the flags. Assumes nothing.
use native.Mathlib.Omega.{arith}
use mathlib.Core.Path.{sym, ◌∙◌}
use Rattle.proofrecords.proofs.Forms.{absence_head_lem, both_room}
use Rattle.proofrecords.specs.ProofBytes.{flags, left_length}
use Rattle.verify_plan.proofs.Plan.{plan_presence, plan_none, plan_lone, plan_both}
use Rattle.verify_plan.proofs.paths_of.Goals as goal

pub returns-then-is_presence : goal.returns-then-is_presence
returns-then-is_presence c = plan_presence c.args.x.now (sym c.is_presence.ensures ∙ c.if-is_presence.true)

pub returns-then-not-is_absence : goal.returns-then-not-is_absence
returns-then-not-is_absence c =
    plan_none c.args.x.now (sym c.is_presence.ensures ∙ c.if-is_presence.false)
    (sym c.is_absence.ensures ∙ c.if-not-is_absence.true)

pub get_u16-requires : goal.get_u16-requires
get_u16-requires c =
    let h = absence_head_lem c.args.x.now (sym c.is_absence.ensures ∙ c.if-not-is_absence.false) in
    omega arith

pub returns-then-get_u16-le2 : goal.returns-then-get_u16-le2
unfolding flags
returns-then-get_u16-le2 c =
    let f = c.get_u16.ensures in
    plan_lone c.args.x.now (sym c.is_presence.ensures ∙ c.if-is_presence.false)
    (sym c.is_absence.ensures ∙ c.if-not-is_absence.false) (omega arith)

pub get_u32-requires : goal.get_u32-requires
unfolding flags
get_u32-requires c =
    let x = c.args.x.now in
    let f = c.get_u16.ensures in
    let r = both_room x (sym c.is_absence.ensures ∙ c.if-not-is_absence.false) (omega arith) in
    omega arith

pub returns : goal.returns
unfolding flags left_length
returns c =
    let f = c.get_u16.ensures in
    plan_both c.args.x.now (sym c.is_absence.ensures ∙ c.if-not-is_absence.false) (omega arith)
    (sym c.is_presence.ensures ∙ c.if-is_presence.false) _ c.get_u32.ensures
