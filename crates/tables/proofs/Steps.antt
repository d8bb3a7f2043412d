-- The steps give the answers and stores of the desk's tables, and of some more batches, by computing each row. Assumes nothing.
use mathlib.Core.Path.{refl}
use Rattle.terms.specs.Bits.{Bytes, All}
use Rattle.meaning.specs.Computed.{computed}
use Rattle.meaning.specs.Desk.{table}
use Rattle.meaning.specs.DeskGaps.{gaps}
use Rattle.steps.specs.Step.{grow, step_leaf, inner_by, step_inner, step_node, step_root}
use Rattle.steps.specs.Writing.{mark_in}
use Rattle.steps.specs.Apply.{stepped, apply_steps}
use Rattle.tables.specs.Steps.{RowSteps, StepsAgree, more}

pub desk_by_steps : (leaf_hash inner_hash : Bytes → Bytes → Bytes) → All (RowSteps leaf_hash inner_hash) (table leaf_hash inner_hash)
unfolding computed grow step_leaf inner_by step_inner step_node step_root mark_in stepped apply_steps
desk_by_steps leaf_hash inner_hash =
    (refl, (refl, (refl, (refl, (refl, (refl, (tt, (refl, (refl, (refl, (tt, (tt, (refl, (refl, (refl, tt)))))))))))))))

pub desk_gaps_by_steps : (leaf_hash inner_hash : Bytes → Bytes → Bytes) → All (RowSteps leaf_hash inner_hash) (gaps leaf_hash inner_hash)
unfolding computed grow step_leaf inner_by step_inner step_node step_root mark_in stepped apply_steps
desk_gaps_by_steps leaf_hash inner_hash =
    (refl, (tt, (refl, (tt, (tt, (tt, (tt, (refl, (refl, (tt, (tt, (tt, (tt, (refl, tt))))))))))))))

pub more_by_steps : (leaf_hash inner_hash : Bytes → Bytes → Bytes) → All (StepsAgree leaf_hash inner_hash) (more leaf_hash inner_hash)
unfolding computed grow step_leaf inner_by step_inner step_node step_root mark_in stepped apply_steps
more_by_steps leaf_hash inner_hash = (refl, (refl, (refl, (refl, tt))))
