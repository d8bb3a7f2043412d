-- `message_record::absence_size` meets its contract: the head and both neighbours. Assumes nothing.
use mathlib.Core.Path.{ap₂}
use Prim.Native.Nat.{◌+◌}
use Rattle.message_record.specs.Ready.{absent_size}
use Rattle.message_record.proofs.Records.{few_size}
use native.Mathlib.Omega.{arith}
use Rattle.message_record.proofs.absence_size.Goals as goal

pub overflow_add-result : goal.overflow_add-result
overflow_add-result c = omega (arith, c.neighbour_size.ensures, few_size c.args.a.left c.requires.0)

pub overflow_add-result-2 : goal.overflow_add-result-2
overflow_add-result-2 c = omega (arith, c.neighbour_size.ensures, c.neighbour_size-2.ensures, few_size c.args.a.left c.requires.0, few_size c.args.a.right c.requires.1)

pub returns : goal.returns
unfolding absent_size
returns c = ap₂ (λ u v. 40 + u + v) c.neighbour_size.ensures c.neighbour_size-2.ensures
