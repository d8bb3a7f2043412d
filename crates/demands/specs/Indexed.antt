-- Document 02, 2026-05: the reads by a table of slot numbers lent with the store. Assumes nothing.
use Rattle.std.specs.Prelude.{ℕ, ◌≡◌, true, cond, List, [], ◌∷◌, length, eqb}
use Rattle.std.proofs.Math.Option.{some}
use Rattle.terms.specs.declared.Form.TheVariants.{Counted as counted}
use Rattle.terms.specs.Bits.{Bytes}
use Rattle.meaning.specs.Calls.{is_kept}
use Rattle.index_reads.specs.Matching.{NoTwoMatch}
use Rattle.layout.specs.Stores.{store_of}
use Rattle.refusals.specs.Exactly.{Table}
use Rattle.refusals.specs.Tables.{HasSlots, WrongSize}
use Rattle.contracts.specs.Contracts.{ReadsRoot, ReadsKey, Counts, ReadsAt, Proves, Palettes}
use Rattle.contracts.specs.Contracts.{ReadsRootBy, ReadsKeyBy, CountsBy, ReadsAtBy, ProvesBy, PalettesBy}

-- The rows of a call that is lent a table: those of the plain call, but 'a table of another length gives 1' too.
abbrev pub rows_by : Bytes → List ℕ → Table → Table
rows_by s table [] = []
rows_by s table (row ∷ rows) =
    let wrong = WrongSize (λ n. HasSlots counted s n × (length table ≡ n)) in
    (row.0, cond (eqb row.0 1) wrong row.1) ∷ rows_by s table rows

-- No two slots match where version v is read: nothing is looked for of a version that isn't kept.
abbrev pub NoneTwice : Bytes → ℕ → Type 0
NoneTwice s v = is_kept (store_of s) v ≡ true → NoTwoMatch (store_of s) v

-- Every read of version v by the table answers, and leaves every byte, as the plain call does.
pub record AsPlain (s : Bytes) (table : List ℕ) (v : ℕ) : Type 0 where
  pub root : {f g h : Bytes} {r q : ℕ} → ReadsRootBy s (some table) v f r g → ReadsRoot s v f q h → (r ≡ q) × (g ≡ h)
  pub key : {k f g h : Bytes} {r q : ℕ} → ReadsKeyBy s (some table) v k f r g → ReadsKey s v k f q h → (r ≡ q) × (g ≡ h)
  pub count : {f g h : Bytes} {r q : ℕ} → CountsBy s (some table) v f r g → Counts s v f q h → (r ≡ q) × (g ≡ h)
  pub position : {i : ℕ} {f g h : Bytes} {r q : ℕ} → ReadsAtBy s (some table) v i f r g → ReadsAt s v i f q h →
      (r ≡ q) × (g ≡ h)
  pub proof : {k room f t u g h : Bytes} {r q : ℕ} → ProvesBy s (some table) v k room f r t g →
      Proves s v k room f q u h → (r ≡ q) × (t ≡ u) × (g ≡ h)
  pub palette : {list room f t u g h : Bytes} {r q : ℕ} → PalettesBy s (some table) v list room f r t g →
      Palettes s v list room f q u h → (r ≡ q) × (t ≡ u) × (g ≡ h)
