-- `read_turn::turn_at` meets its contract. Assumes nothing.
use native.Mathlib.Omega.{arith}
use Rattle.store.proofs.Slots.{slot_within}
use Rattle.read_turn.proofs.Turning.{turned_left, turned_right}
use Rattle.read_turn.proofs.turn_at.Goals as goal

pub child_count_at-lefts-requires : goal.child_count_at-lefts-requires
child_count_at-lefts-requires c = slot_within c.requires

pub returns-then-n-lefts : goal.returns-then-n-lefts
returns-then-n-lefts c = turned_left c.args.n c.child_count_at-lefts.ensures (omega (arith, c.if-n-lefts.true))

pub returns : goal.returns
returns c = turned_right c.args.n c.child_count_at-lefts.ensures (omega (arith, c.if-n-lefts.false))
