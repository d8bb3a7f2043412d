-- Document 02, request 2026-08: a rescue, over any bytes of a source and of a target. Assumes nothing.
use Rattle.std.specs.Prelude.{ℕ, ◌+◌, ◌≤◌, ◌<◌, ◌≡◌, true, List, ◌++◌, length}
use Rattle.terms.specs.declared.Form.TheVariants.{Counted as counted}
use Rattle.terms.specs.Bits.{Bytes}
use Rattle.terms.specs.Fields.{le}
use Rattle.terms.specs.Records.{Slot}
use Rattle.meaning.specs.Calls.{Answer, refused, accepted}
use Rattle.meaning.specs.Answers.{Exports}
use Rattle.nodehash.specs.Node.{leaf_hash, inner_hash}
use Rattle.layout.specs.Headers.{size_right}
use Rattle.layout.specs.Stores.{store_of, store_bytes}
use Rattle.rescue_rules.specs.Rescue.{rescued, Counts, Run, Longest}
use Rattle.rescue_bytes.specs.Numbers.{numbers_of}

-- The slots that bytes hold.
abbrev pub slots_in : Bytes → List Slot
slots_in s = (store_of s).slots

-- Source and target have a store's size, the same.
pub record SameSize (s old : Bytes) : Type 0 where
  pub source : size_right counted (length s) ≡ true
  pub target : size_right counted (length old) ≡ true
  pub equal : length s ≡ length old

-- No run of the source ends at latest and begins at oldest or later.
abbrev pub NoRun : Bytes → ℕ → ℕ → Type 0
NoRun s oldest latest = (f m : ℕ) → f + m ≡ latest → oldest ≤ f → Run leaf_hash inner_hash (slots_in s) f m → ⊥

-- What is reported: the run's first version and the three numbers.
abbrev pub Report : Type 0
Report = record { first : ℕ; numbers : Counts }

-- Rescuing the source s into a target that holds the bytes old gives this answer and leaves these bytes of the target.
pub data Rescues (oldest latest : ℕ) (s old : Bytes) : Answer Report → Bytes → Type 0 where
  -- 1: a size that is wrong or not equal; nothing is written
  wrong_size : (SameSize s old → ⊥) → Rescues oldest latest s old (refused 1) old
  -- 2: oldest above latest; nothing is written
  out_of_order : SameSize s old → latest < oldest → Rescues oldest latest s old (refused 2) old
  -- 3: no version; nothing is written
  no_version : SameSize s old → oldest ≤ latest → NoRun s oldest latest → Rescues oldest latest s old (refused 3) old
  -- else the bytes are those of the rescued store of the longest run, and the two buffers are compared
  rescues : {f m : ℕ} {t : Bytes} → SameSize s old → oldest ≤ latest →
      Longest leaf_hash inner_hash (slots_in s) oldest latest f m → t ≡ store_bytes (rescued (slots_in s) f m) →
      Rescues oldest latest s old (accepted (record { first = f; numbers = numbers_of s t })) t

-- What is told in C: the first version, and the three numbers in their order.
unfoldable pub report_bytes : Report → Bytes
report_bytes r = le 4 r.first ++ (le 4 r.numbers.same ++ (le 4 r.numbers.other ++ le 4 r.numbers.out))

-- The same call for C answers r and leaves these bytes of the target; the array f for the report is left as g.
abbrev pub RescueExports : ℕ → ℕ → Bytes → Bytes → Bytes → ℕ → Bytes → Bytes → Type 0
RescueExports oldest latest s old f r t g = Exports (λ a. Rescues oldest latest s old a t) report_bytes f r g
