-- Many proofs checked by cutting the row, test after test, as rooms of code promise it to each other. No public promise
-- reaches this file. Assumes nothing.
use Rattle.std.specs.Prelude.{ℕ, zero, suc, ◌+◌, ◌*◌, ◌/◌, Bool, cond, ◌&&◌, List, [], ◌∷◌, ◌++◌, length, take, drop, eqb, leb}
use Rattle.terms.specs.Bits.{Bytes}
use Rattle.terms.specs.Fields.{field}
use Rattle.meaning.specs.Calls.{Answer, refused, accepted}
use Rattle.palette_rules.specs.Palette.{key_size, whole_keys, keys_in}
use Rattle.verify_rules.specs.Reading.{verified}
use Rattle.verify_rows.specs.Rows.{answer_size, answer_bytes}

-- A piece is as long as its first four bytes say.
unfoldable pub own_length : Bytes → ℕ
own_length x = field 0 4 x

-- The bytes begin with a piece: there is a length, at least 4, and there are that many bytes.
unfoldable pub begins : Bytes → Bool
begins x = leb 4 (length x) && (leb 4 (own_length x) && leb (own_length x) (length x))

-- The bytes are exactly n pieces, by their own lengths, none over.
abbrev pub cuts_into : ℕ → Bytes → Bool
cuts_into zero x = eqb (length x) 0
cuts_into (suc n) x = begins x && cuts_into n (drop (own_length x) x)

-- These pieces.
abbrev pub pieces : ℕ → Bytes → List Bytes
pieces zero x = []
pieces (suc n) x = take (own_length x) x ∷ pieces n (drop (own_length x) x)

-- Where piece i begins, and its bytes.
abbrev pub start_of : Bytes → ℕ → ℕ
start_of p zero = 0
start_of p (suc i) = start_of p i + own_length (drop (start_of p i) p)

abbrev pub piece_at : Bytes → ℕ → Bytes
piece_at p a = take (own_length (drop a p)) (drop a p)

-- The answers of single checks for keys and pieces, in their order.
abbrev pub answers_of : Bytes → List Bytes → List Bytes → Bytes
answers_of root [] xs = []
answers_of root (k ∷ ks) [] = []
answers_of root (k ∷ ks) (x ∷ xs) = answer_bytes (verified root k x) ++ answers_of root ks xs

-- 12 if the root isn't 32 bytes or the list isn't 0 to 256 whole keys; 10 if the bytes aren't exactly as many pieces as
-- keys; 9 if there are fewer than 34 bytes a key for the answers; else the answers.
unfoldable pub many_verified : Bytes → Bytes → Bytes → ℕ → Answer Bytes
many_verified root keys proofs room =
    cond (eqb (length root) 32 && whole_keys keys)
    (cond (cuts_into (length keys / key_size) proofs)
    (cond (leb (answer_size * (length keys / key_size)) room)
    (accepted (answers_of root (keys_in keys) (pieces (length keys / key_size) proofs)))
    (refused 9)) (refused 10)) (refused 12)
