-- `index_write::apply_both` meets its contract. Assumes nothing.
use native.Mathlib.Omega.{arith}
use mathlib.Core.Path.{ap, sym, ◌∙◌}
use Rattle.terms.specs.declared.Form.TheVariants.{Counted as counted}
use Rattle.terms.specs.Bits.{Byte, All}
use Rattle.terms.proofs.Lists.{all_of}
use Rattle.layout.specs.Sizes.{room_of}
use Rattle.refusal_numbers.specs.Refusals.{number_told}
use Rattle.refusal_numbers.proofs.Numbers.{not_zero}
use Rattle.index_rules.proofs.Outcomes.{told_sound, told_fits}
use Rattle.index_write.proofs.Writing.{not_both, both_applied, apply_refused, apply_made, apply_sound_after}
use Rattle.index_write.proofs.apply_both.Goals as goal

pub returns-in-Err : goal.returns-in-Err
returns-in-Err c =
    let batch-bytes : All Byte c.args.batch.now = all_of Byte c.args.batch.now 0 (λ i _. omega (arith, c.shared_slice_known-1.given i)) in
    let a = c.args in
    rw c.number.ensures (both_applied a.number a.batch.now batch-bytes (not_both (rw c.in-Err.is at c.told.ensures) (not_zero c.in-Err.refusal)))

pub apply_sound-applied-requires : goal.apply_sound-applied-requires
apply_sound-applied-requires c = told_sound c.told.ensures (ap number_told c.in_default.is)

pub keep_more-requires : goal.keep_more-requires
keep_more-requires c =
    let batch-bytes : All Byte c.args.batch.now = all_of Byte c.args.batch.now 0 (λ i _. omega (arith, c.shared_slice_known-1.given i)) in (
      apply_sound_after c.args.number c.args.batch.now c.apply_sound-applied.ensures (omega (arith, c.ranges.number.fits)) batch-bytes
          c.in-Ok.is,
      told_fits c.told.ensures (ap number_told c.in_default.is) ∙ ap (room_of counted) (sym c.apply_sound-applied.auto.store),
    )

pub returns-in-Err-applied : goal.returns-in-Err-applied
returns-in-Err-applied c =
    let batch-bytes : All Byte c.args.batch.now = all_of Byte c.args.batch.now 0 (λ i _. omega (arith, c.shared_slice_known-1.given i)) in
    let a = c.args in
    rw c.number-in-Err-applied.ensures (apply_refused a.number a.batch.now batch-bytes c.told.ensures (ap number_told c.in_default.is) c.apply_sound-applied.ensures c.in-Err-applied.is)

pub returns-in-Ok : goal.returns-in-Ok
returns-in-Ok c =
    let batch-bytes : All Byte c.args.batch.now = all_of Byte c.args.batch.now 0 (λ i _. omega (arith, c.shared_slice_known-1.given i)) in
    let a = c.args in
    apply_made a.number a.batch.now batch-bytes c.told.ensures (ap number_told c.in_default.is) c.apply_sound-applied.ensures c.in-Ok.is c.keep_more.ensures c.put_answer.ensures
