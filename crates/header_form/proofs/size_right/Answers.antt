-- `header_form::size_right` meets its contract: between the least and the greatest size only the rest by a slot's size is left to test. Assumes
-- nothing.
use native.Mathlib.Omega.{arith}
use Rattle.layout.proofs.Headers.{size_low, size_high, size_whole}
use Rattle.header_form.proofs.size_right.Goals as goal

pub returns-then-n-size : goal.returns-then-n-size
returns-then-n-size c = size_low _ _ c.slot_size-size.ensures.0 (omega arith)

pub returns-then-size-n : goal.returns-then-size-n
returns-then-size-n c = size_high _ _ c.slot_size-size.ensures.0 (omega arith)

pub returns : goal.returns
returns c = size_whole _ _ c.slot_size-size.ensures.0 (omega arith) (omega arith)
