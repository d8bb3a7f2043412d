-- What a batch is read as, record by record, as the code reads it. No public promise reaches this file: those are by
-- the bytes that ask. Assumes nothing.
use Rattle.std.specs.Prelude.{ℕ, zero, suc, ◌/◌, ◌%◌, Bool, true, cond, ◌&&◌, ◌||◌, List, [], ◌∷◌, map, length, take, drop, eqb, leb}
use Rattle.std.proofs.Math.Option.{Option, some, none}
use Rattle.terms.specs.Bits.{Bytes}
use Rattle.terms.specs.Fields.{field, slice, all_zero, all_of}
use Rattle.terms.specs.Records.{Ask, insert, delete}
use Rattle.batch.specs.Sizes.{
  record_size,
  insert_length,
  insert_kind,
  delete_length,
  delete_kind,
  kind_at,
  zero_at,
  key_at_lem,
  value_at,
  most_records,
}

-- The bytes begin with this length, this kind and 2 zero.
unfoldable pub head_is : ℕ → ℕ → Bytes → Bool
head_is n k x = all_of (eqb (field 0 4 x) n ∷ eqb (field kind_at 2 x) k ∷ eqb (field zero_at 2 x) 0 ∷ [])

unfoldable pub is_insert : Bytes → Bool
is_insert x = head_is insert_length insert_kind x

unfoldable pub is_delete : Bytes → Bool
is_delete x = head_is delete_length delete_kind x && all_zero (slice value_at 32 x)

-- The record is in form.
unfoldable pub ask_form : Bytes → Bool
ask_form x = is_insert x || is_delete x

-- What a record in form asks for.
unfoldable pub ask : Bytes → Ask
ask x = cond (is_insert x) (insert (slice key_at_lem 32 x) (slice value_at 32 x)) (delete (slice key_at_lem 32 x))

-- The first n records of a batch.
unfoldable pub records : ℕ → Bytes → List Bytes
records zero b = []
records (suc n) b = take record_size b ∷ records n (drop record_size b)

-- How many whole records a batch has.
abbrev pub count : Bytes → ℕ
count b = length b / record_size

-- The whole records of a batch, and what they ask for.
abbrev pub records_of : Bytes → List Bytes
records_of b = records (count b) b

unfoldable pub asks : Bytes → List Ask
asks b = map ask (records_of b)

-- Each entry passes a test.
abbrev pub every : {A : Type 0} → (A → Bool) → List A → Bool
every f [] = true
every f (x ∷ xs) = f x && every f xs

-- A batch is whole records in form, at most 1,024.
unfoldable pub batch_form : Bytes → Bool
batch_form b = all_of (eqb (length b % record_size) 0 ∷ leb (count b) most_records ∷ every ask_form (records_of b) ∷ [])

-- What a batch asks for; none exactly where refusal 4 is given.
unfoldable pub batch_of : Bytes → Option (List Ask)
batch_of b = cond (batch_form b) (some (asks b)) none
