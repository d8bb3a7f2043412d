-- The contracts of the public calls, over any bytes. Bytes that a call is lent to look at stay. Assumes nothing.
use Rattle.std.specs.Prelude.{ℕ, ◌+◌, ◌*◌, ◌≡◌, cond, length}
use Rattle.terms.specs.declared.Form.TheVariants.{Plain as plain, Counted as counted}
use Rattle.terms.specs.Bits.{Bytes}
use Rattle.meaning.specs.Store.{formatted}
use Rattle.sha256.specs.Sha256.{sha256}
use Rattle.layout.specs.Sizes.{room_of}
use Rattle.layout.specs.Headers.{size_right}
use Rattle.layout.specs.Stores.{store_bytes}
use Rattle.promises.specs.Check.{Checked}
use Rattle.move_rules.specs.Moves as move
-- Applying a batch and pruning, also with a table of slot numbers (2026-05), which is built and told to be right.
pub use Rattle.contracts.specs.Apply.{ApplyExports as Applies}
pub use Rattle.contracts.specs.Prune.{PruneExports as Prunes}
pub use Rattle.index_rules.specs.Tables.{Builds as Indexes, Tells as TellsIndex, FormatsBoth as FormatsIndexed}
pub use Rattle.contracts.specs.Tabled.{AppliesBoth as AppliesIndexed, PrunesBoth as PrunesIndexed}
-- Reading a root, a key, the number of grants, the grant at a position; proving; each by scans and by a table.
pub use Rattle.contracts.specs.Reads.{ReadsRoot, ReadsKey, ReadsRootBy, ReadsKeyBy}
pub use Rattle.contracts.specs.Numbers.{Counts, ReadsAt, CountsBy, ReadsAtBy}
pub use Rattle.contracts.specs.Proves.{Proves, ProvesBy}
pub use Rattle.contracts.specs.Palettes.{Palettes, PalettesBy}
-- Comparing two versions, rescuing, figures, the pocket prover, and what a forged proof would cost.
pub use Rattle.contracts.specs.Changes.{Changes}
pub use Rattle.rescue_bytes.specs.Rescues.{RescueExports as Rescues}
pub use Rattle.contracts.specs.Figures.{Figures}
pub use Rattle.contracts.specs.Pocket.{PocketProves}
pub use Rattle.contracts.specs.Finds.{Finds}
-- Checking a proof, many at once, one of the pocket profile and one of a shelf; messages written and read.
pub use Rattle.verify_rules.specs.Verify.{Verifies}
pub use Rattle.verify_rows.specs.Rows.{VerifiesMany}
pub use Rattle.verify_rules.specs.Pocket.{PocketVerifies}
pub use Rattle.shelf_rules.specs.Shelf.{ShelfVerifies}
pub use Rattle.message_rules.specs.Contracts.{WritesMessage, ReadsMessage}

-- Formatting the bytes s answers r, 1 for a wrong size, and leaves the bytes t: a fresh store, or s where refused.
pub record Formats (s : Bytes) (r : ℕ) (t : Bytes) : Type 0 where
  pub answer : r ≡ cond (size_right counted (length s)) 0 1
  pub bytes : t ≡ cond (size_right counted (length s)) (store_bytes (formatted (room_of counted (length s)))) s

-- Checking the bytes s answers r.
abbrev pub Checks : Bytes → ℕ → Type 0
Checks s r = Checked counted s r

-- Moving a source s of the old form over, or of the new form back, into a target that holds old answers r and leaves t.
abbrev pub MovesOver : Bytes → Bytes → ℕ → Bytes → Type 0
MovesOver s old r t = move.Moves plain s old r t

abbrev pub MovesBack : Bytes → Bytes → ℕ → Bytes → Type 0
MovesBack s old r t = move.Moves counted s old r t

-- Asked for its version, the library answers r, no number of refusal: 0, 1, 0, in a byte each from the high end.
abbrev pub TellsVersion : ℕ → Type 0
TellsVersion r = r ≡ (0 * 256 * 256 + 1 * 256 + 0) * 256

-- Hashing the bytes x answers 0; the array for the digest is left as g.
pub record Hashes (x : Bytes) (r : ℕ) (g : Bytes) : Type 0 where
  pub answer : r ≡ 0
  pub digest : g ≡ sha256 x
