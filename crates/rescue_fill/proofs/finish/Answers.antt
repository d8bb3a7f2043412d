-- `rescue_fill::finish` meets its contract: the header is written over the slots. Assumes nothing.
use native.Mathlib.Omega.{arith}
use mathlib.Core.Path.{refl}
use Rattle.layout.proofs.Headers.{size_says, size_least}
use Rattle.rescue_fill.proofs.Filling.{header_over}
use Rattle.rescue_fill.proofs.finish.Goals as goal

pub slot_count-n-requires : goal.slot_count-n-requires
slot_count-n-requires c = c.requires.size

pub overflow_cast-n : goal.overflow_cast-n
overflow_cast-n c = omega (arith, c.slot_count-n.ensures, size_says _ _ c.requires.size)

pub put_header-requires : goal.put_header-requires
put_header-requires c = omega (arith, size_least _ _ c.requires.size)

pub returns : goal.returns
returns c = record { answer = refl; bytes = header_over c.args.target.now c.args.first c.args.latest c.requires c.slot_count-n.ensures c.put_header.ensures }
