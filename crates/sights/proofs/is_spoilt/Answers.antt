-- `sights::is_spoilt` meets its contract: what is neither a record in form nor all zero is spoilt. Assumes nothing.
use mathlib.Core.Path.{ap, sym, ◌∙◌}
use mathlib.Core.Bool.{not}
use Rattle.layout.specs.Slots.{slot_of}
use Rattle.sights.proofs.Spoilt.{used_whole, unused_spoilt}
use Rattle.sights.proofs.is_spoilt.Goals as goal

pub returns-then-holds_record : goal.returns-then-holds_record
returns-then-holds_record c = used_whole (slot_of c.args.s.now) (sym c.holds_record.ensures ∙ c.if-holds_record.true)

pub returns : goal.returns
returns c = ap not c.all_zero.ensures ∙ unused_spoilt _ (sym c.holds_record.ensures ∙ c.if-holds_record.false)
