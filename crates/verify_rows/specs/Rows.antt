-- Many proofs checked in one call, beyond document 02: a row of pieces, one for each key of a list. Assumes nothing.
use Rattle.std.specs.Prelude.{ℕ, ◌*◌, ◌≤◌, ◌<◌, ◌≡◌, true, List, [], ◌∷◌, ◌++◌, length, drop}
use Rattle.terms.specs.Bits.{Bytes, All}
use Rattle.terms.specs.Fields.{field, flat, zero_bytes}
use Rattle.meaning.specs.Calls.{Answer, refused, accepted}
use Rattle.meaning.specs.Reading.{Verdict}
use Rattle.meaning.specs.Answers.{number_of, told_of, found_bytes, Exports}
use Rattle.palette_rules.specs.Palette.{whole_keys, keys_in}
use Rattle.verify_rules.specs.Verify.{Judged, Told}

-- A piece is as long as its first four bytes say, at least 4.
abbrev pub Piece : Bytes → Type 0
Piece x = (4 ≤ length x) × (field 0 4 x ≡ length x)

-- The bytes are these n pieces one after the other, none over.
pub record Pieces (n : ℕ) (row : Bytes) (xs : List Bytes) : Type 0 where
  pub each : All Piece xs
  pub many : length xs ≡ n
  pub bytes : row ≡ flat xs

-- The answer of a single check in 34 bytes: its number, then what it leaves in 33 bytes of zeros.
unfoldable pub answer_bytes : Answer Verdict → Bytes
answer_bytes a = number_of a ∷ told_of found_bytes a (zero_bytes 33)

-- The answers of single checks for keys and pieces, in their order.
pub data Answers (root : Bytes) : List Bytes → List Bytes → Bytes → Type 0 where
  nothing_left : Answers root [] [] []
  next : {k x b : Bytes} {a : Answer Verdict} {keys xs : List Bytes} → Told Judged root k x a →
      Answers root keys xs b → Answers root (k ∷ keys) (x ∷ xs) (answer_bytes a ++ b)

-- The root has 32 bytes, and the list is 0 to 256 whole keys.
abbrev pub RootAndKeys : Bytes → Bytes → Type 0
RootAndKeys root list = (length root ≡ 32) × (whole_keys list ≡ true)

-- Else 12; 10 if the bytes aren't exactly as many pieces as keys; 9 where 34 bytes a key don't fit; else the answers.
pub data ToldOfRow (root list row : Bytes) (room : ℕ) : Answer Bytes → Type 0 where
  not_whole : (RootAndKeys root list → ⊥) → ToldOfRow root list row room (refused 12)
  not_pieces : RootAndKeys root list → ((xs : List Bytes) → Pieces (length (keys_in list)) row xs → ⊥) →
      ToldOfRow root list row room (refused 10)
  no_room : {xs : List Bytes} → RootAndKeys root list → Pieces (length (keys_in list)) row xs →
      room < 34 * length (keys_in list) → ToldOfRow root list row room (refused 9)
  answered : {xs : List Bytes} {b : Bytes} → RootAndKeys root list → Pieces (length (keys_in list)) row xs →
      34 * length (keys_in list) ≤ room → Answers root (keys_in list) xs b → ToldOfRow root list row room (accepted b)

-- Checking many proofs answers r; the buffer is left as new: the answers at its front, and what is behind them stays.
abbrev pub VerifiesMany : Bytes → Bytes → Bytes → Bytes → ℕ → Bytes → Type 0
VerifiesMany root list row old r new =
    Exports (ToldOfRow root list row (length old)) (λ (b : Bytes). b ++ drop (length b) old) old r new

-- The size of an answer by name, as the laws cite it.
abbrev pub answer_size : ℕ
answer_size = 34
