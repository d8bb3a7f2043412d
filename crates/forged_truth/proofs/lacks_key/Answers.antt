-- `forged_truth::lacks_key` meets its contract: case by case of the key read. Assumes nothing.
use native.Mathlib.Omega.{arith}
use mathlib.Core.Path.{ap, ◌∙◌}
use Rattle.std.specs.Prelude.{Ok}
use Rattle.terms.specs.Bits.{Byte}
use Rattle.terms.proofs.Lists.{all_of}
use Rattle.forged_truth.proofs.Reading.{sound_size, refused_absent, there, not_there}
use Rattle.forged_truth.proofs.lacks_key.Goals as goal

pub walk_read-read-requires : goal.walk_read-read-requires
walk_read-read-requires c = (sound_size c.requires.0.sound, c.requires.1)

pub returns-in-Err : goal.returns-in-Err
returns-in-Err c = refused_absent c.requires.0 c.args.key.now (c.requires.1, all_of Byte c.args.key.now 0 (λ i _. omega (arith, c.shared_slice_known-2-1.given i))) c.walk_read-read.result c.walk_read-read.ensures c.in-Err.is

pub returns-in-Ok-Some : goal.returns-in-Ok-Some
returns-in-Ok-Some c = there c.requires.0 c.args.key.now (c.requires.1, all_of Byte c.args.key.now 0 (λ i _. omega (arith, c.shared_slice_known-2-1.given i))) c.walk_read-read.result c.walk_read-read.ensures (c.in-Ok-Some.is ∙ ap Ok (rw c.in-Ok-Some.is at c.in-Ok-Some.field-0-is))

pub returns-in-Ok-None : goal.returns-in-Ok-None
returns-in-Ok-None c = not_there c.requires.0 c.args.key.now (c.requires.1, all_of Byte c.args.key.now 0 (λ i _. omega (arith, c.shared_slice_known-2-1.given i))) c.walk_read-read.result c.walk_read-read.ensures (c.in-Ok-None.is ∙ ap Ok (rw c.in-Ok-None.is at c.in-Ok-None.field-0-is))
