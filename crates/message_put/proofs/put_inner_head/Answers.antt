-- `message_put::put_inner_head` meets its contract, by the side. Assumes nothing.
use mathlib.Core.Path.{sym, subst}
use Rattle.message_rules.specs.Puts.{Puts, RoomFor}
use Rattle.message_put.proofs.Parts.{head_right_lem, head_left}
use Rattle.message_put.proofs.put_inner_head.Goals as goal

pub put_bytes-requires : goal.put_bytes-requires
put_bytes-requires c = subst (λ f. RoomFor c.args.at f c.args.room.now) (head_right_lem c.args.side c.if-side-eq1.true) c.requires

pub returns-then-side-eq1 : goal.returns-then-side-eq1
returns-then-side-eq1 c = let a = c.args in subst (λ f. Puts a.at f a.room.now c.put_bytes.new.room c.put_bytes.result) (sym (head_right_lem a.side c.if-side-eq1.true)) c.put_bytes.ensures

pub put_bytes-requires-2 : goal.put_bytes-requires-2
put_bytes-requires-2 c = subst (λ f. RoomFor c.args.at f c.args.room.now) (head_left c.args.side c.if-side-eq1.false) c.requires

pub returns : goal.returns
returns c = let a = c.args in subst (λ f. Puts a.at f a.room.now c.put_bytes-2.new.room c.put_bytes-2.result) (sym (head_left a.side c.if-side-eq1.false)) c.put_bytes-2.ensures
