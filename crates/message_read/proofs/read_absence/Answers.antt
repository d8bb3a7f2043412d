-- `message_read::read_absence` meets its contract: 9, else the record and the spots. Assumes nothing.
use mathlib.Core.Path.{ap, sym, ◌∙◌}
use mathlib.Core.List.{◌++◌}
use Rattle.terms.specs.Fields.{le}
use Rattle.messages.specs.Spots.{spots_in}
use Rattle.message_rules.specs.Answers.{spots_bytes}
use Rattle.terms.specs.Records.{absence}
use Rattle.message_form.specs.Said.{absent_at}
use Rattle.message_read.proofs.Spotting.{absent_ready, absent_few, absent_long, absent_small}
use Rattle.message_read.proofs.Answering.{reads_no_room, reads_there}
use native.Mathlib.Omega.{arith}
use Rattle.message_read.proofs.read_absence.Goals as goal

pub absence_size-size-requires : goal.absence_size-size-requires
absence_size-size-requires c = absent_few c.requires.0

pub returns-then-room-size : goal.returns-then-room-size
returns-then-room-size c = reads_no_room (omega (arith, absent_long c.requires.0, c.absence_size-size.ensures, c.if-room-size.true))

pub put_absence-requires : goal.put_absence-requires
put_absence-requires c = (absent_ready c.requires.0, omega (arith, c.absence_size-size.ensures, c.if-room-size.false))

pub put_leaves-requires : goal.put_leaves-requires
put_leaves-requires c = (c.requires.0, (c.requires.1, omega (arith, c.absence_size-size.ensures, absent_small c.requires.0)))

pub returns : goal.returns
returns c =
    let n = absent_long c.requires.0 in
    reads_there (omega (arith, n, c.absence_size-size.ensures, c.if-room-size.false)) c.put_absence.ensures
    (c.put_leaves.ensures ∙ ap (λ u. le 4 u ++ spots_bytes (spots_in (absence (absent_at c.args.m.now c.args.a)))) (c.absence_size-size.ensures ∙ sym n))
