-- Document 01 beside 2026-13: a list of calls that leaves no gap between the versions, and 01's rule for roots. Assumes
-- nothing.
use Rattle.std.specs.Prelude.{ℕ, List, [], ◌∷◌}
use Rattle.std.proofs.Math.Option.{Option}
use Rattle.terms.specs.Bits.{Bytes}
use Rattle.terms.specs.Records.{Record, Store}
use Rattle.meaning.specs.Store.{find}
use Rattle.meaning.specs.History.{Call}
use Rattle.meaning.specs.Course.{after}
use Rattle.histories.specs.Claims.{NoGap}

-- Document 01's rule: the root of a version is the record (version, empty place), if any; the lowest is the one found.
abbrev pub root_in01 : Store → ℕ → Option Record
root_in01 st v = find v [] st.slots

-- No call of a list leaves a gap.
abbrev pub NoGaps : (Bytes → Bytes → Bytes) → (Bytes → Bytes → Bytes) → List Call → Store → Type 0
NoGaps leaf_hash inner_hash [] st = Unit {0}
NoGaps leaf_hash inner_hash (c ∷ calls) st =
    NoGap c st × NoGaps leaf_hash inner_hash calls (after leaf_hash inner_hash c st)
