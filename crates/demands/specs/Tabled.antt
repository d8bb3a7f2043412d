-- Document 02, 2026-05: a table kept beside the store. 'Apply and prune test for 16 after 3.' Assumes nothing.
use Rattle.std.specs.Prelude.{ℕ, ◌≤◌, Bool, false, List, [], ◌∷◌, ◌++◌, drop}
use Rattle.terms.specs.Bits.{Bytes}
use Rattle.terms.specs.Form.{top32}
use Rattle.meaning.specs.History.{Call, looking, Entry}
use Rattle.index_rules.specs.Tables.{RightFor}
use Rattle.refusals.specs.Exactly.{Table}
use Rattle.refusals.specs.Tables.{sound_rows}
use Rattle.contracts.specs.Contracts.{Indexes, FormatsIndexed, AppliesIndexed, PrunesIndexed}
use Rattle.demands.specs.Indexed.{rows_by}
use Rattle.demands.specs.Calls.{Called, Life}

-- Telling: 1, 2, 3; then 16, the table isn't the right one of the store.
abbrev pub tell_rows : Bytes → List ℕ → Table
tell_rows s table = rows_by s table (sound_rows s) ++ (16, RightFor s table → ⊥) ∷ []

-- Apply and prune: 1, 2, 3, 16; then the plain call's after 3.
abbrev pub keep_rows : Bytes → List ℕ → Table → Table
keep_rows s table rows = tell_rows s table ++ drop 3 rows

-- A store and a table that only public calls wrote: formatted together, or built for a store with a life of its own.
pub data Together : Bytes → List ℕ → Type 0 where
  formatted_both : {s t : Bytes} {table u : List ℕ} → FormatsIndexed s table 0 t u → Together t u
  built_for : {start : List Entry} {history : List (Call × Bool)} {s : Bytes} {table u : List ℕ} →
      Life start history s → Indexes s table 0 u → Together s u
  then_formatted : {s t : Bytes} {table u : List ℕ} {r : ℕ} → Together s table → FormatsIndexed s table r t u →
      Together t u
  then_applied : (number : ℕ) (batch : Bytes) {r : ℕ} {s f t g : Bytes} {table u : List ℕ} → number ≤ top32 →
      Together s table → AppliesIndexed number batch s table f r t u g → Together t u
  then_pruned : (n : ℕ) {r : ℕ} {s f t g : Bytes} {table u : List ℕ} → Together s table →
      PrunesIndexed n s table f r t u g → Together t u
  then_built : {s : Bytes} {table u : List ℕ} {r : ℕ} → Together s table → Indexes s table r u → Together s u
  then_looked : {s : Bytes} {table : List ℕ} → Together s table → Called s (looking, false) s → Together s table
