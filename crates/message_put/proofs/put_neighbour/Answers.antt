-- `message_put::put_neighbour` meets its contract: nobody, or the head and the existence proof. Assumes nothing.
use mathlib.Core.Path.{sym, subst}
use Rattle.message_rules.specs.Puts.{Puts}
use Rattle.message_rules.proofs.Writing.{puts_none}
use Rattle.proofrecords.specs.ProofBytes.{presence_in}
use Rattle.messages.specs.Message.{existence}
use Rattle.messages.specs.Lending.{raw_presence}
use Rattle.message_lent.specs.Lent.{leaf}
use Rattle.message_put.proofs.Parts.{puts_two, room_first, room_second, neighbour_parts, neighbour_none}
use native.Mathlib.Omega.{arith}
use Rattle.message_put.proofs.put_neighbour.Goals as goal

pub returns-then-p-eq0 : goal.returns-then-p-eq0
returns-then-p-eq0 c =
    let a = c.args in
    subst (λ f. Puts a.at f a.room.now a.room.now a.at) (sym (neighbour_none a.n a.key.now a.value.now a.p.now c.if-p-eq0.true)) (puts_none a.at a.room.now)

pub existence_size-size-requires : goal.existence_size-size-requires
existence_size-size-requires c = let l = c.requires.0.2 c.if-p-eq0.false in (c.requires.0.1 c.if-p-eq0.false, l.key_short, l.value_short)

pub put_head-start-requires : goal.put_head-start-requires
put_head-start-requires c =
    let a = c.args in
    let s = c.existence_size-size.ensures in
    let w = neighbour_parts a.n a.key.now a.value.now a.p.now c.requires.0.0 c.if-p-eq0.false (c.requires.0.2 c.if-p-eq0.false) in
    let e = s.0 in
    ((c.requires.0.0, omega (arith, s.1)), rw e (room_first (existence (raw_presence (leaf a.key.now a.value.now) (presence_in a.p.now))) w c.requires.1))

pub put_existence-requires : goal.put_existence-requires
put_existence-requires c =
    let a = c.args in
    let l = c.requires.0.2 c.if-p-eq0.false in
    let e = c.existence_size-size.ensures.0 in
    let w = neighbour_parts a.n a.key.now a.value.now a.p.now c.requires.0.0 c.if-p-eq0.false l in
    ((c.requires.0.1 c.if-p-eq0.false, l), room_second (rw e at c.put_head-start.ensures) w c.requires.1)

pub returns : goal.returns
returns c =
    let a = c.args in
    let e = c.existence_size-size.ensures.0 in
    let w = neighbour_parts a.n a.key.now a.value.now a.p.now c.requires.0.0 c.if-p-eq0.false (c.requires.0.2 c.if-p-eq0.false) in
    puts_two (rw e at c.put_head-start.ensures) c.put_existence.ensures w c.requires.1
