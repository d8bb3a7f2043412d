-- `prune_sound::prune_sound` meets its contract: the version is tested first, then the retired records are freed and oldest is set.
-- Assumes nothing.
use native.Mathlib.Omega.{arith}
use mathlib.Core.Path.{sym, ◌∙◌}
use Rattle.terms.specs.Bits.{Byte}
use Rattle.terms.proofs.Lists.{all_of}
use Rattle.prune_sound.specs.Prune.{pruned_says}
use Rattle.promises.proofs.Calls.{sound_long}
use Rattle.prune_sound.proofs.Outcomes.{sound_readable, refused_8, pruned_to}
use Rattle.prune_sound.proofs.prune_sound.Goals as goal

pub is_kept-requires : goal.is_kept-requires
is_kept-requires c = sound_long c.requires

pub returns-then-not-is_kept : goal.returns-then-not-is_kept
unfolding pruned_says
returns-then-not-is_kept c = refused_8 c.requires c.args.version (sym c.is_kept.ensures ∙ c.if-not-is_kept.true)

pub free_retired-freed-requires : goal.free_retired-freed-requires
free_retired-freed-requires c = sound_readable c.requires (all_of Byte c.args.store.now 0 (λ i _. omega (arith, c.slice_known-1.given i)))

pub put_oldest-requires : goal.put_oldest-requires
put_oldest-requires c = omega (arith, c.free_retired-freed.auto.store, sound_long c.requires)

pub returns : goal.returns
unfolding pruned_says
returns c =
    pruned_to c.requires c.args.version (sym c.is_kept.ensures ∙ c.if-not-is_kept.false) c.free_retired-freed.ensures
    c.put_oldest.ensures
