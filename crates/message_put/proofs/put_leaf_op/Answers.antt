-- `message_put::put_leaf_op` meets its contract. Assumes nothing.
use mathlib.Core.Path.{sym, subst}
use Rattle.message_rules.specs.Puts.{Puts, RoomFor}
use Rattle.message_put.proofs.Parts.{leaf_field_lem}
use Rattle.message_put.proofs.put_leaf_op.Goals as goal

pub put_bytes-requires : goal.put_bytes-requires
put_bytes-requires c = subst (λ f. RoomFor c.args.at f c.args.room.now) leaf_field_lem c.requires

pub returns : goal.returns
returns c = let a = c.args in subst (λ f. Puts a.at f a.room.now c.put_bytes.new.room c.put_bytes.result) (sym leaf_field_lem) c.put_bytes.ensures
