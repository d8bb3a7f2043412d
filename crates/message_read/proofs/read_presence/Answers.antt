-- `message_read::read_presence` meets its contract: 9, else the record and the spots. Assumes nothing.
use mathlib.Core.Path.{ap₂, sym, ◌∙◌}
use mathlib.Core.List.{◌++◌}
use Rattle.terms.specs.Fields.{le}
use Rattle.message_rules.specs.Answers.{spots_bytes}
use Rattle.message_record.proofs.Records.{held_ready, few_steps, length_own}
use Rattle.message_read.proofs.Spotting.{bounded, some_bounded, none_bounded, presence_spots}
use Rattle.message_read.proofs.Answering.{reads_no_room, reads_there}
use native.Mathlib.Omega.{arith}
use Rattle.message_read.proofs.read_presence.Goals as goal

pub presence_size-size-requires : goal.presence_size-size-requires
presence_size-size-requires c = few_steps (held_ready c.requires.0)

pub returns-then-room-size : goal.returns-then-room-size
returns-then-room-size c = reads_no_room (omega (arith, length_own (held_ready c.requires.0), c.presence_size-size.ensures, c.if-room-size.true))

pub put_presence-requires : goal.put_presence-requires
put_presence-requires c = (held_ready c.requires.0, omega (arith, c.presence_size-size.ensures, c.if-room-size.false))

pub put_answer-requires : goal.put_answer-requires
put_answer-requires c =
    let b = bounded c.requires.0 c.requires.1 in
    ((omega (arith, c.presence_size-size.ensures, few_steps (held_ready c.requires.0)), b.key_bounds), (some_bounded b, none_bounded))

pub returns : goal.returns
returns c =
    let n = length_own (held_ready c.requires.0) in
    reads_there (omega (arith, n, c.presence_size-size.ensures, c.if-room-size.false)) c.put_presence.ensures
    (c.put_answer.ensures ∙ ap₂ (λ u v. le 4 u ++ spots_bytes v) (c.presence_size-size.ensures ∙ sym n) (sym (presence_spots c.requires.0)))
