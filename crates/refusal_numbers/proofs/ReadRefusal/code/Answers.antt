-- `refusal_numbers::ReadRefusal::code` meets its contract: the slot stands in the high half. Assumes nothing.
use mathlib.Core.Path.{◌∙◌, ap}
use Prim.Native.Nat.{◌+◌, ◌*◌}
use Rattle.meaning.specs.Reading.{beside}
use Rattle.refusal_numbers.specs.Refusals.{code}
use Rattle.refusal_numbers.proofs.ReadRefusal.code.Goals as goal

pub returns-in-Spoilt : goal.returns-in-Spoilt
unfolding beside
returns-in-Spoilt c = rw (c.in-Spoilt.is, c.from-in-Spoilt.ensures)
