-- Document 02, 2026-02: the raw keys and values that a message holds, and where in it they stand. Assumes nothing.
use Rattle.std.specs.Prelude.{ℕ, ◌+◌, ◌≤◌, ◌≡◌, List, [], ◌∷◌, ◌++◌, length, take, replicate}
use Rattle.std.proofs.Math.Option.{Option, none, some}
use Rattle.terms.specs.Bits.{Bytes, Byte, All}
use Rattle.terms.specs.Fields.{slice}
use Rattle.terms.specs.Records.{Presence, Proof, presence, absence}
use Rattle.messages.specs.Wire.{varint, bytes_tag, bytes_field}
use Rattle.messages.specs.Message.{existence, neighbour_field, nonexistence}

-- A raw key or value: where in the message it begins, how many bytes it may have, and its bytes.
pub record Part : Type 0 where
  pub at : ℕ
  pub most : ℕ
  pub bytes : Bytes

pub record Raw (most : ℕ) (x : Bytes) : Type 0 where
  pub some_byte : 1 ≤ length x
  pub short : length x ≤ most
  pub bytes : All Byte x

-- Where what field n holds begins: after its tag and length.
abbrev pub in_field : ℕ → ℕ → Bytes → ℕ
in_field start n x = start + length (bytes_tag n ++ varint (length x))

-- A raw key has at most 256 bytes, a raw value 4,096.
abbrev pub key_part : ℕ → Bytes → Part
key_part start x = record { at = in_field start 1 x; most = 256; bytes = x }

abbrev pub value_part : ℕ → Bytes → Part
value_part start x = record { at = in_field start 2 x; most = 4096; bytes = x }

-- Key and value of a leaf that field n shows.
abbrev pub leaf_parts : ℕ → ℕ → Option Presence → List Part
leaf_parts start n none = []
leaf_parts start n (some p) =
    let s = in_field start n (existence p) in
    key_part s p.key ∷ value_part (s + length (bytes_field 1 p.key)) p.value ∷ []

-- The key asked for, which in the message of a presence is its leaf's.
abbrev pub asked_in : Proof → Part
asked_in (presence p) = key_part (in_field 0 1 (existence p)) p.key
asked_in (absence a) = key_part (in_field 0 2 (nonexistence a)) a.key

-- Key and value of each leaf shown, the left one first.
abbrev pub leaves_in : Proof → List Part
leaves_in (presence p) = leaf_parts 0 1 (some p)
leaves_in (absence a) =
    let l = in_field 0 2 (nonexistence a) + length (bytes_field 1 a.key) in
    let r = l + length (neighbour_field 2 a.leftward) in
    leaf_parts l 2 a.leftward ++ leaf_parts r 3 a.rightward

-- The same for two leaves: without bytes, at 0, where one isn't shown.
abbrev pub two_leaves : Proof → List Part
two_leaves q = take 4 (leaves_in q ++ replicate 4 (record { at = 0; most = 0; bytes = [] }))

abbrev pub StandsIn : Bytes → Part → Type 0
StandsIn m p = slice p.at (length p.bytes) m ≡ p.bytes
