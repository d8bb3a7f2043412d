-- `prove_write::write` meets its contract, by the shape of the plan. Assumes nothing.
use mathlib.Core.Path.{ap, ◌∙◌}
use Rattle.std.specs.Prelude.{Ok}
use Rattle.prove_write.proofs.Lengths.{presence_ready, absence_ready, as_planned, nothing_written}
use Rattle.prove_write.proofs.write.Goals as goal

pub put_presence-requires : goal.put_presence-requires
put_presence-requires c = presence_ready c.args.store.now c.args.key.now c.args.part.now c.args.plan c.requires.0 c.requires.2 (c.in-Ok-Presence.is ∙ ap Ok (rw c.in-Ok-Presence.is at c.in-Ok-Presence.field-0-is))

pub put_absence-requires : goal.put_absence-requires
put_absence-requires c = absence_ready c.args.store.now c.args.key.now c.args.part.now c.args.plan c.requires.0 c.requires.2 (c.in-Ok-Absence.is ∙ ap Ok (rw c.in-Ok-Absence.is at c.in-Ok-Absence.field-0-is)) c.requires.1

pub returns-in-Err : goal.returns-in-Err
returns-in-Err c = nothing_written c.args.store.now c.args.key.now c.args.part.now c.args.plan c.requires.0 c.requires.2 c.in-Err.is

pub returns-in-Ok-Presence : goal.returns-in-Ok-Presence
returns-in-Ok-Presence c = as_planned c.args.store.now c.args.key.now c.args.part.now c.args.plan c.requires.0 c.requires.2 (c.in-Ok-Presence.is ∙ ap Ok (rw c.in-Ok-Presence.is at c.in-Ok-Presence.field-0-is)) c.put_presence.ensures

pub returns-in-Ok-Absence : goal.returns-in-Ok-Absence
returns-in-Ok-Absence c = as_planned c.args.store.now c.args.key.now c.args.part.now c.args.plan c.requires.0 c.requires.2 (c.in-Ok-Absence.is ∙ ap Ok (rw c.in-Ok-Absence.is at c.in-Ok-Absence.field-0-is)) c.put_absence.ensures
