-- Document 01, 'Bytes', batch record: what a batch asks for, by the bytes that ask it. Assumes nothing.
use Rattle.std.specs.Prelude.{ℕ, ◌≤◌, ◌≡◌, List, [], ◌∷◌, map, length}
use Rattle.std.proofs.Math.Option.{Option, some, none}
use Rattle.terms.specs.Bits.{Bytes, All}
use Rattle.terms.specs.Fields.{le, flat}
use Rattle.terms.specs.Records.{Ask, insert, delete, zeros}
use Rattle.terms.specs.Form.{AskForm}

-- A record's bytes: length, kind, 2 zero, key 32, value 32, which is zero for delete.
unfoldable pub ask_bytes : Ask → Bytes
ask_bytes (insert k x) = flat (le 4 72 ∷ le 2 1 ∷ le 2 0 ∷ k ∷ x ∷ [])
ask_bytes (delete k) = flat (le 4 40 ∷ le 2 2 ∷ le 2 0 ∷ k ∷ zeros ∷ [])

-- The bytes of a batch: its records one after the other.
unfoldable pub asks_bytes : List Ask → Bytes
asks_bytes as' = flat (map ask_bytes as')

-- The bytes of a batch are whole records in form, at most 1,024, and ask for this.
pub record AskedBy (batch : Bytes) (as' : List Ask) : Type 0 where
  pub bytes : batch ≡ asks_bytes as'
  pub form : All AskForm as'
  pub few : length as' ≤ 1024

-- What a batch asks for; none where its bytes are no such records, and refusal 4 is given.
abbrev pub Asks : Bytes → Option (List Ask) → Type 0
Asks batch none = (as' : List Ask) → AskedBy batch as' → ⊥
Asks batch (some as') = AskedBy batch as'
