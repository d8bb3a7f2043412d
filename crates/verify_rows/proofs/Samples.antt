-- Rows worked out by hand from the call's words and computed: each refusal where it is deserved together with the next, and answers in the order of
-- their keys. Assumes nothing.
use Prim.Native.Nat.{ℕ}
use mathlib.Core.Path.{◌≡◌, refl}
use mathlib.Core.List.{List, [], ◌∷◌, ◌++◌, map}
use lib.ListN.{replicate}
use Rattle.terms.specs.Bits.{Bytes}
use Rattle.terms.specs.Fields.{field, slice, zero_bytes, all_of}
use Rattle.meaning.specs.Answers.{number_of}
use Rattle.palette_rules.specs.Palette.{whole_keys, keys_in}
use Rattle.proofrecords.specs.ProofBytes.{proof_in, is_presence, is_absence, presence_in, step_count}
use Rattle.verify_rules.specs.Reading.{verified}
use Rattle.verify_rows.specs.Rows.{answer_bytes}
use Rattle.verify_rows.specs.Reading.{own_length, begins, cuts_into, pieces, answers_of, many_verified}

-- a piece of 4 bytes, which is no proof; and three bytes that say 3, with a piece of 256 behind them
abbrev four : Bytes
four = 4 ∷ 0 ∷ 0 ∷ 0 ∷ []

abbrev three : Bytes
three = 3 ∷ 0 ∷ 0 ∷ 0 ∷ 1 ∷ 0 ∷ 0 ∷ replicate 252 0

abbrev key : Bytes
key = replicate 32 0

-- a root of 31 bytes and a torn row; a list that is a byte too long, and a torn row; a torn row; no piece for a key, and no room; a piece of 3; a
-- piece without room, and with it; a byte over; nothing for no key
numbers : List ℕ
numbers =
    map (λ a. number_of a)
    (many_verified (replicate 31 0) [] (1 ∷ []) 0
    ∷ many_verified key (0 ∷ key) (1 ∷ []) 0
    ∷ many_verified key [] (1 ∷ []) 0
    ∷ many_verified key key [] 33
    ∷ many_verified key (key ++ key) three 68
    ∷ many_verified key key four 33
    ∷ many_verified key key four 34
    ∷ many_verified key key (four ++ (0 ∷ [])) 34
    ∷ many_verified key [] [] 0
    ∷ [])

numbers_right : numbers ≡ 12 ∷ 12 ∷ 10 ∷ 10 ∷ 10 ∷ 9 ∷ 0 ∷ 10 ∷ 0 ∷ []
unfolding numbers many_verified whole_keys keys_in begins own_length field slice
numbers_right = refl

-- a presence proof of another key, without steps: 11, behind the piece that is no proof: 10
abbrev other : Bytes
other = 72 ∷ 0 ∷ 0 ∷ 0 ∷ 16 ∷ 0 ∷ 0 ∷ 0 ∷ replicate 64 1

in_order : answers_of key (key ∷ key ∷ []) (four ∷ other ∷ []) ≡ (10 ∷ replicate 33 0) ++ (11 ∷ replicate 33 0)
unfolding answer_bytes verified proof_in is_presence is_absence presence_in step_count field slice all_of zero_bytes
in_order = refl
