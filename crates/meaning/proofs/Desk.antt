-- The desk's tables hold, and its history with gaps grants what it says, by computing. Assumes nothing.
use mathlib.Core.Path.{◌≡◌, refl}
use mathlib.Core.List.{[], ◌∷◌}
use Rattle.terms.specs.Bits.{Bytes, All}
use Rattle.meaning.specs.Computed.{computed}
use Rattle.meaning.specs.Store.{formatted}
use Rattle.meaning.specs.History.{entry, ledger}
use Rattle.meaning.specs.Course.{run, history}
use Rattle.meaning.specs.Desk.{table}
use Rattle.meaning.specs.DeskGaps.{RowHolds, gaps, not_above, gap_calls, gap_granted, g₇}

pub desk : (leaf_hash inner_hash : Bytes → Bytes → Bytes) → All (RowHolds leaf_hash inner_hash) (table leaf_hash inner_hash)
unfolding computed
desk leaf_hash inner_hash =
    (refl, (refl, (refl, (refl, (refl, (refl, (refl, (refl, (refl, (refl, (refl, (refl, (refl, (refl, (refl, tt)))))))))))))))

pub desk_gaps : (leaf_hash inner_hash : Bytes → Bytes → Bytes) → All (RowHolds leaf_hash inner_hash) (gaps leaf_hash inner_hash)
unfolding computed
desk_gaps leaf_hash inner_hash =
    (refl, (refl, (refl, (refl, (refl, (refl, (refl, (refl, (refl, (refl, (refl, (refl, (refl, (refl, tt))))))))))))))

pub not_above_lem : (leaf_hash inner_hash : Bytes → Bytes → Bytes) → All (RowHolds leaf_hash inner_hash) (not_above leaf_hash inner_hash)
unfolding computed
not_above_lem leaf_hash inner_hash = (refl, (refl, (refl, (refl, tt))))

pub gap_history : (leaf_hash inner_hash : Bytes → Bytes → Bytes) →
    ledger (history leaf_hash inner_hash gap_calls (formatted 20)) (entry 0 [] ∷ []) ≡ gap_granted
unfolding computed
gap_history leaf_hash inner_hash = refl

pub gap_store : (leaf_hash inner_hash : Bytes → Bytes → Bytes) → run leaf_hash inner_hash gap_calls (formatted 20) ≡ g₇ leaf_hash inner_hash
unfolding computed
gap_store leaf_hash inner_hash = refl
