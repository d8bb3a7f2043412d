-- A slot, one higher, in which a read by a table finds what it seeks. Assumes nothing.
use Rattle.std.specs.Prelude.{ℕ, ◌-◌, ◌≤◌, ◌≡◌, List, get_or}
use Rattle.terms.specs.Bits.{Bytes}
use Rattle.terms.specs.Records.{Record, free, used}
use Rattle.terms.specs.Form.{most_slots}
use Rattle.meaning.specs.Sight.{matches}
use Rattle.indexed.specs.Index.{node_by}
use Rattle.layout.specs.Stores.{store_of}

-- The record in the slot one lower is what a read by the table finds for its node; 0 names none.
pub record LedBy (s : Bytes) (table : List ℕ) (e : ℕ) : Type 0 where
  pub most : e ≤ most_slots
  pub finds : (r : Record) → 1 ≤ e → get_or (store_of s).slots (e - 1) free ≡ used r →
      node_by table (store_of s) r.version r.place ≡ matches r
