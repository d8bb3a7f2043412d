-- `message_record::put_digest` meets its contract: a part of the room, filled with the hash. Assumes nothing.
use lib.ListN.{length-take, length-drop}
use Rattle.message_record.proofs.Records.{digest_put}
use native.Mathlib.Omega.{arith}
use Rattle.message_record.proofs.put_digest.Goals as goal

pub put_hash-requires : goal.put_hash-requires
put_hash-requires c = simp (length-take, length-drop) (omega arith)

pub returns : goal.returns
returns c =
    let a = c.args in
    digest_put a.at a.x.now a.room.now c.put_hash.new.s c.digest-h.result c.digest-h.ensures (simp (length-take, length-drop) (omega (arith, c.requires))) c.put_hash.ensures
