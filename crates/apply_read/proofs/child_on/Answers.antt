-- `apply_read::child_on` meets its contract: version and hash are the fields of the child. Assumes nothing.
use native.Mathlib.Omega.{arith}
use mathlib.Core.Path.{ap, ap₂, ◌∙◌}
use Rattle.terms.specs.Records.{child}
use Rattle.hash.proofs.Laws.{read_whole}
use Rattle.layout.specs.Slots.{kid_on}
use Rattle.slots.specs.Answer.{child_says}
use Rattle.apply_read.proofs.child_on.Goals as goal

pub child_version_at-version-requires : goal.child_version_at-version-requires
child_version_at-version-requires c = c.requires

pub slot_of-requires : goal.slot_of-requires
slot_of-requires c = c.requires

pub hash_at-hash-requires : goal.hash_at-hash-requires
hash_at-hash-requires c = omega (arith, c.child_hash.ensures.1)

pub returns : goal.returns
unfolding child_says
returns c = ap₂ child c.child_version_at-version.ensures (read_whole c.hash_at-hash.ensures.result_value c.child_hash.ensures.1 (c.child_hash.ensures.0 ∙ ap (λ x. (kid_on c.args.right x).hash) c.slot_of.ensures.0))
