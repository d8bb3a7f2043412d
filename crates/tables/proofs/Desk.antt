-- The desk's history of M1 to M11 grants what the desk says, and ends with the store of its table, by computing. Assumes nothing.
use mathlib.Core.Path.{◌≡◌, refl}
use mathlib.Core.List.{[], ◌∷◌}
use Rattle.terms.specs.Bits.{Bytes}
use Rattle.meaning.specs.Computed.{computed}
use Rattle.meaning.specs.Store.{formatted}
use Rattle.meaning.specs.History.{entry, ledger}
use Rattle.meaning.specs.Course.{run, history}
use Rattle.meaning.specs.Desk.{s₈}
use Rattle.meaning.specs.DeskGaps.{calls, granted}

pub desk_history : (leaf_hash inner_hash : Bytes → Bytes → Bytes) →
    ledger (history leaf_hash inner_hash calls (formatted 20)) (entry 0 [] ∷ []) ≡ granted
unfolding computed
desk_history leaf_hash inner_hash = refl

-- the refused calls and the read have changed nothing: the store is that of the table after M8
pub desk_store : (leaf_hash inner_hash : Bytes → Bytes → Bytes) → run leaf_hash inner_hash calls (formatted 20) ≡ s₈ leaf_hash inner_hash
unfolding computed
desk_store leaf_hash inner_hash = refl
