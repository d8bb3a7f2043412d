-- Document 01, 'Numbers of refusal': what stands before a batch is applied to a sound store. Assumes nothing.
use Rattle.std.specs.Prelude.{ℕ, ◌≤◌, ◌≡◌, true, []}
use Rattle.std.proofs.Math.Option.{Option, none, some}
use Rattle.terms.specs.Bits.{Bytes}
use Rattle.terms.specs.Records.{Record}
use Rattle.meaning.specs.Store.{free_slots}
use Rattle.layout.specs.Sizes.{most_slots}
use Rattle.layout.specs.Stores.{store_of}
use Rattle.batch.specs.Batch.{batch_form}
use Rattle.batch.specs.Runs.{Run}
use Rattle.promises.specs.Calls.{SoundBytes}

-- The store is sound, and the batch is in form and in order.
pub record Ready (s batch : Bytes) : Type 0 where
  pub sound : SoundBytes s
  pub form : batch_form batch ≡ true
  pub run : Run [] batch

-- The version of a root that is found; 0 where there is none.
abbrev pub root_version : Option Record → ℕ
root_version none = 0
root_version (some r) = r.version

-- How many slots are free.
pub record FreeCount (s : Bytes) (n : ℕ) : Type 0 where
  pub count : n ≡ free_slots (store_of s).slots
  pub small : n ≤ most_slots
