-- Document 02, request 2026-02: where in a message the raw keys and values stand that reading gives back. Assumes
-- nothing.
use Rattle.std.specs.Prelude.{ℕ, ◌+◌, ◌≡◌, ◌++◌, length}
use Rattle.std.proofs.Math.Option.{Option, none, some}
use Rattle.terms.specs.Bits.{Bytes}
use Rattle.terms.specs.Fields.{slice}
use Rattle.terms.specs.Records.{Presence, Absence, Proof, presence, absence}
use Rattle.messages.specs.Wire.{varint, bytes_tag, bytes_field}
use Rattle.messages.specs.Message.{existence, neighbour_field, nonexistence}
use Rattle.messages.specs.Lending.{Lent}

-- Where bytes begin, and how many they are; 0 and 0 where there are none.
pub record Spot : Type 0 where
  pub at : ℕ
  pub size : ℕ

abbrev pub nowhere : Spot
nowhere = record { at = 0; size = 0 }

-- The raw key asked for, and raw key and value of the leaf shown or the left of two, and of the right of two.
pub record Spots : Type 0 where
  pub asked : Spot
  pub key1 : Spot
  pub value1 : Spot
  pub key2 : Spot
  pub value2 : Spot

-- What stands before the bytes of field n: its tag and their length.
unfoldable pub field_head : ℕ → Bytes → Bytes
field_head n x = bytes_tag n ++ varint (length x)

-- Key and value of an existence proof that begins there; and the key of a non-existence proof.
abbrev pub key_spot : ℕ → Bytes → Spot
key_spot start key = record { at = start + length (field_head 1 key); size = length key }

abbrev pub value_spot : ℕ → Presence → Spot
value_spot start p =
    record { at = start + length (bytes_field 1 p.key) + length (field_head 2 p.value); size = length p.value }

-- The leaves of an absence proof whose neighbours begin there.
abbrev pub leaf_spots : Spot → ℕ → Option Presence → Option Presence → Spots
leaf_spots asked start none none =
    record { asked = asked; key1 = nowhere; value1 = nowhere; key2 = nowhere; value2 = nowhere }
leaf_spots asked start (some l) none =
    let s = start + length (field_head 2 (existence l)) in
    record { asked = asked; key1 = key_spot s l.key; value1 = value_spot s l; key2 = nowhere; value2 = nowhere }
leaf_spots asked start none (some r) =
    let s = start + length (field_head 3 (existence r)) in
    record { asked = asked; key1 = key_spot s r.key; value1 = value_spot s r; key2 = nowhere; value2 = nowhere }
leaf_spots asked start (some l) (some r) =
    let s = start + length (field_head 2 (existence l)) in
    let t = start + length (neighbour_field 2 (some l)) + length (field_head 3 (existence r)) in
    record {
      asked = asked;
      key1 = key_spot s l.key;
      value1 = value_spot s l;
      key2 = key_spot t r.key;
      value2 = value_spot t r;
    }

-- In the message of a presence the leaf's key is the one asked for.
unfoldable pub spots_in : Proof → Spots
spots_in (presence p) =
    let s = length (field_head 1 (existence p)) in
    let k = key_spot s p.key in
    record { asked = k; key1 = k; value1 = value_spot s p; key2 = nowhere; value2 = nowhere }
spots_in (absence a) =
    let s = length (field_head 2 (nonexistence a)) in
    leaf_spots (key_spot s a.key) (s + length (bytes_field 1 a.key)) a.leftward a.rightward
