-- `message_record::put_neighbour` meets its contract: nobody, or a presence proof. Assumes nothing.
use mathlib.Core.Path.{ap, sym, ◌∙◌}
use Rattle.fields.specs.Written.{written}
use Rattle.message_rules.proofs.Writing.{written_none}
use Rattle.message_record.specs.Ready.{size_of}
use Rattle.message_record.proofs.Records.{beside_bytes, ready_as}
use native.Mathlib.Omega.{arith}
use Rattle.message_record.proofs.put_neighbour.Goals as goal

pub returns-in_default : goal.returns-in_default
returns-in_default c =
    let a = c.args in
    written_none a.at a.room.now ∙ sym (ap (λ o. written a.at (beside_bytes a.x.now o) a.room.now) c.in_default.is)

pub put_presence-requires : goal.put_presence-requires
put_presence-requires c = (ready_as c.args.x.now c.in-Some.is c.requires.0, omega (arith, ap size_of c.in-Some.is, c.requires.1))

pub returns : goal.returns
returns c =
    let a = c.args in
    c.put_presence.ensures ∙ sym (ap (λ o. written a.at (beside_bytes a.x.now o) a.room.now) c.in-Some.is)
