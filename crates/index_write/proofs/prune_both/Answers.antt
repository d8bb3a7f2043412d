-- `index_write::prune_both` meets its contract. Assumes nothing.
use mathlib.Core.Path.{ap, sym, ◌∙◌}
use borrow.Author.Rules.{rules}
use Rattle.terms.specs.declared.Form.TheVariants.{Counted as counted}
use Rattle.layout.specs.Sizes.{room_of}
use Rattle.refusal_numbers.specs.Refusals.{number_told}
use Rattle.refusal_numbers.proofs.Numbers.{not_zero}
use Rattle.index_rules.proofs.Outcomes.{told_sound, told_fits}
use Rattle.index_write.proofs.Writing.{not_both, prune_refused, prune_freed, prune_sound_after}
use Rattle.index_write.proofs.prune_both.Goals as goal

pub returns-in-Err : goal.returns-in-Err
returns-in-Err c = rw c.number.ensures (not_both (rw c.in-Err.is at c.told.ensures) (not_zero c.in-Err.refusal))

pub prune_sound-pruned-requires : goal.prune_sound-pruned-requires
prune_sound-pruned-requires c = told_sound c.told.ensures (ap number_told c.in_default.is)

pub keep_fewer-requires : goal.keep_fewer-requires
keep_fewer-requires c = (
  prune_sound_after c.args.version c.prune_sound-pruned.ensures c.in-Ok.is,
  told_fits c.told.ensures (ap number_told c.in_default.is) ∙ ap (room_of counted) (sym c.prune_sound-pruned.auto.store),
)

pub returns-in-Err-pruned : goal.returns-in-Err-pruned
returns-in-Err-pruned c = rw c.number-in-Err-pruned.ensures (prune_refused c.args.version c.told.ensures (ap number_told c.in_default.is) c.prune_sound-pruned.ensures c.in-Err-pruned.is)

pub returns-in-Ok : goal.returns-in-Ok
returns-in-Ok c = prune_freed c.args.version c.told.ensures (ap number_told c.in_default.is) c.prune_sound-pruned.ensures c.in-Ok.is c.keep_fewer.ensures (search rules) c.put_u32.ensures
