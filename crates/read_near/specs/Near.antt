-- Guesses that a call has made for itself of the slots in which children stand. Assumes nothing.
use Rattle.std.specs.Prelude.{ℕ, ◌-◌, ◌*◌, ◌<◌, ◌≤◌, ◌≡◌, List, get_or}
use Rattle.terms.specs.Records.{Record, free, used, Store}
use Rattle.terms.specs.Form.{most_slots}
use Rattle.meaning.specs.Sight.{matches}
use Rattle.indexed.specs.Index.{node_by}

-- An entry that isn't 0 names the slot one lower; a read by the table, or by the scan where that has no entries, finds
-- the record there for its node. A list without entries is no guess at all.
abbrev pub Led : Store → List ℕ → List ℕ → Type 0
Led st table kids =
    (m : ℕ) (r : Record) → m < 2 * most_slots → 1 ≤ get_or kids m 0 →
    get_or st.slots (get_or kids m 0 - 1) free ≡ used r → node_by table st r.version r.place ≡ matches r
