-- `check_ahead::messages_of` meets its contract. Lane by lane. Assumes nothing.
use native.Mathlib.Omega.{arith}
use mathlib.Core.Path.{◌∙◌}
use borrow.Author.Rules.{rules}
use Rattle.nodehash_eight.proofs.Lanes.{put_more}
use Rattle.check_ahead.specs.Ahead.{HashAt}
use Rattle.check_ahead.proofs.messages_of.Goals as goal

pub loop-l-init : goal.loop-l-init
loop-l-init c = (search rules, λ i h. absurd (omega arith))

pub message_of-m-requires : goal.message_of-m-requires
message_of-m-requires c = c.requires c.loop-l.l (omega arith)

pub put_message-requires : goal.put_message-requires
put_message-requires c = (c.loop-l.invariant.0, omega arith, c.message_of-m.ensures.kind)

pub loop-l-preserved : goal.loop-l-preserved
loop-l-preserved c =
    let m = c.message_of-m in
    let a = c.args in (
      c.put_message.ensures.long ∙ c.loop-l.invariant.0,
      put_more (HashAt a.form a.store.now a.slots.now) c.loop-l.x _ c.loop-l.l _ (omega arith) c.put_message.ensures c.loop-l.invariant.1 m.ensures.hash,
    )

pub returns : goal.returns
returns c = λ i h. c.loop-l.invariant.1 i (omega arith)
