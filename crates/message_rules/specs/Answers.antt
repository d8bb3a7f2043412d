-- What writing and reading answer by what is lent as a record, and what reading tells by spots: the code's own words.
-- No public promise reaches this file. Assumes nothing.
use Rattle.std.specs.Prelude.{ℕ, [], ◌∷◌, ◌++◌, length}
use Rattle.std.proofs.Math.Option.{Option}
use Rattle.terms.specs.Bits.{Bytes}
use Rattle.terms.specs.Fields.{le, flat}
use Rattle.terms.specs.Records.{Proof}
use Rattle.meaning.specs.Calls.{Answer}
use Rattle.sha256.specs.Sha256.{sha256}
use Rattle.messages.specs.Lending.{Lent, written_from, read_from, record_of}
use Rattle.messages.specs.Spots.{Spot, Spots, spots_in}

abbrev pub lent_of : Bytes → Bytes → Bytes → Bytes → Bytes → Lent
lent_of asked key1 value1 key2 value2 =
    record {
      asked = asked;
      first = record { key = key1; value = value1 };
      second =
          record { key = key2; value = value2 };
    }

-- The message of the proof that a record is, with what is lent, into a room: 10, 15, 9.
abbrev pub written_into : Option Proof → Lent → Bytes → Answer Bytes
written_into said lent room = written_from sha256 said lent (length room)

-- Our own record of what a message says, into a room: 10, 9.
abbrev pub read_into : Option Proof → Bytes → Answer Proof
read_into said room = read_from sha256 said (length room)

-- The record's length, then five spots.
abbrev pub spot_bytes : Spot → Bytes
spot_bytes s = le 4 s.at ++ le 4 s.size

abbrev pub spots_bytes : Spots → Bytes
spots_bytes s =
    flat (spot_bytes s.asked ∷ spot_bytes s.key1 ∷ spot_bytes s.value1 ∷ spot_bytes s.key2 ∷
    spot_bytes s.value2 ∷ [])

abbrev pub answer_bytes : Proof → Bytes
answer_bytes q = le 4 (length (record_of sha256 q)) ++ spots_bytes (spots_in q)
