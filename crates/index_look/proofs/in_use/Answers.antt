-- `index_look::in_use` meets its contract: the kind tells. Assumes nothing.
use native.Mathlib.Omega.{arith}
use Rattle.terms.specs.Bits.{Byte}
use Rattle.terms.proofs.Lists.{all_of}
use Rattle.store.proofs.Slots.{slot_within}
use Rattle.index_look.proofs.Nodes.{sound_has, used_by_kind}
use Rattle.index_look.proofs.in_use.Goals as goal

pub kind_at-requires : goal.kind_at-requires
kind_at-requires c = slot_within (sound_has c.requires.0 c.requires.1)

pub returns : goal.returns
returns c = used_by_kind c.requires.0 (all_of Byte c.args.store.now 0 (λ i _. omega (arith, c.shared_slice_known-1.given i))) c.requires.1 c.kind_at.ensures
