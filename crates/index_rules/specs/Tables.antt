-- Document 02, 2026-05: the calls that keep a table of slot numbers, over any bytes and any table. Assumes nothing.
use Rattle.std.specs.Prelude.{ℕ, ◌≡◌, true, List, length}
use Rattle.terms.specs.declared.Form.TheVariants.{Counted as counted}
use Rattle.terms.specs.Bits.{Bytes}
use Rattle.terms.specs.Records.{Store}
use Rattle.meaning.specs.Store.{formatted}
use Rattle.meaning.specs.Calls.{Answer, refused, accepted, Result}
use Rattle.indexed.specs.Table.{Right}
use Rattle.layout.specs.Sizes.{room_of}
use Rattle.layout.specs.Headers.{size_right}
use Rattle.layout.specs.Stores.{store_of, store_bytes}
use Rattle.promises.specs.Check.{Checked}
use Rattle.promises.specs.Calls.{Does}

abbrev pub Fits : Bytes → List ℕ → Type 0
Fits s table = length table ≡ room_of counted (length s)

abbrev pub RightFor : Bytes → List ℕ → Type 0
RightFor s table = Right (store_of s) table

-- What is asked first: a table of another length gives 1, with the store's own; else what check answers.
pub data Opened (s : Bytes) (table : List ℕ) : ℕ → Type 0 where
  other_length : (Fits s table → ⊥) → Opened s table 1
  checked : {r : ℕ} → Fits s table → Checked counted s r → Opened s table r

-- Telling whether the table is right answers r: 16 where it is not.
pub data Tells (s : Bytes) (table : List ℕ) : ℕ → Type 0 where
  not_opened : {r : ℕ} → (r ≡ 0 → ⊥) → Opened s table r → Tells s table r
  not_right : Opened s table 0 → (RightFor s table → ⊥) → Tells s table 16
  is_right : Opened s table 0 → RightFor s table → Tells s table 0

-- Building answers r and leaves the table u: the right one, whatever it held; refused, as it was.
pub data Builds (s : Bytes) (table : List ℕ) : ℕ → List ℕ → Type 0 where
  not_built : {r : ℕ} → (r ≡ 0 → ⊥) → Opened s table r → Builds s table r table
  built : {u : List ℕ} → Opened s table 0 → RightFor s u → Builds s table 0 u

-- Formatting both answers r and leaves bytes t and table u: a fresh store and its right table; refused, as they were.
pub data FormatsBoth (s : Bytes) (table : List ℕ) : ℕ → Bytes → List ℕ → Type 0 where
  wrong_size : (size_right counted (length s) ≡ true → Fits s table → ⊥) → FormatsBoth s table 1 s table
  both_fresh : {t : Bytes} {u : List ℕ} → size_right counted (length s) ≡ true → Fits s table →
      t ≡ store_bytes (formatted (room_of counted (length s))) → RightFor t u → FormatsBoth s table 0 t u

-- A call that tests soundness, with the table: refused as telling is or as the call alone, else the right one is left.
pub data DoesBoth {A : Type 0} (call : Store → Result A) (s : Bytes) (table : List ℕ) : Answer A → Bytes → List ℕ →
    Type 0 where
  not_told : {r : ℕ} → (r ≡ 0 → ⊥) → Tells s table r → DoesBoth call s table (refused r) s table
  refuses_both : {m : ℕ} {t : Bytes} → Tells s table 0 → Does call s (refused m) t →
      DoesBoth call s table (refused m) t table
  accepts_both : {a : A} {t : Bytes} {u : List ℕ} → Tells s table 0 → Does call s (accepted a) t → RightFor t u →
      DoesBoth call s table (accepted a) t u
