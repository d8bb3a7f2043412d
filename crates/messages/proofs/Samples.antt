-- Messages byte by byte, as another encoder gives them from the proto file, and bytes that are none, by computing. Assumes nothing.
use mathlib.Core.Path.{◌≡◌, refl}
use mathlib.Core.Bool.{true, false}
use mathlib.Core.List.{[], ◌∷◌, ◌++◌}
use mathlib.Core.Option.{Option, none, some}
use lib.ListN.{length, get_or, replicate}
use Rattle.terms.specs.Bits.{Bytes}
use Rattle.terms.specs.Fields.{le, slice, field, all_of}
use Rattle.terms.specs.Records.{Presence, Proof, presence, absence}
use Rattle.proofrecords.specs.ProofBytes.{presence_bytes, step_count, is_presence, presence_in, left_length, left_part, right_part, flags, neighbours_fit, is_absence, proof_in}
use Rattle.meaning.specs.Calls.{refused, accepted}
use Rattle.messages.specs.Wire.{varint_in, varint, bytes_tag, message_field, bytes_field, number_field}
use Rattle.messages.specs.Message.{existence, nonexistence, message_bytes, leaf_bytes, inner_bytes, existence_bytes}
use Rattle.messages.specs.Raws.{leaf_op, inner_op}
use Rattle.messages.specs.Reading.{onward, only_if, not_zero, step_in, length_right, existence_in, neighbour_from, nonexistence_in, field_alone, message_in}
use Rattle.messages.specs.Lending.{Lent, unlent, hashes_to, leaf_fits, fitted, written_from, record_of, read_from, read}

-- key a, value b, no step
abbrev alone : Presence
alone = record { key = 97 ∷ []; value = 98 ∷ []; steps = [] }

-- a value of 200 bytes, whose length takes two; a sibling on the right, then one on the left
abbrev climbing : Presence
climbing = record {
  key = 97 ∷ 98 ∷ [];
  value = replicate 200 7;
  steps = record { side = false; sibling = replicate 32 3 } ∷ record { side = true; sibling = replicate 32 9 } ∷ [];
}

abbrev least : Presence
least = record { key = 97 ∷ []; value = 98 ∷ []; steps = record { side = false; sibling = replicate 32 3 } ∷ [] }

abbrev greatest : Presence
greatest = record { key = 122 ∷ []; value = 121 ∷ []; steps = record { side = true; sibling = replicate 32 4 } ∷ [] }

abbrev between : Option Presence → Option Presence → Proof
between l r = absence (record { key = 109 ∷ []; leftward = l; rightward = r })

-- field 3, the leaf op
abbrev leaf_field : Bytes
leaf_field = 26 ∷ 9 ∷ 8 ∷ 1 ∷ 16 ∷ 1 ∷ 24 ∷ 1 ∷ 42 ∷ 1 ∷ 1 ∷ []

-- a proof, and its message
abbrev Is : Proof → Bytes → Type 0
Is p x = (message_bytes p ≡ x) × (message_in x ≡ some p)

abbrev No : Bytes → Type 0
No x = message_in x ≡ none

presences :
    Is (presence alone) ((10 ∷ 17 ∷ 10 ∷ 1 ∷ 97 ∷ 18 ∷ 1 ∷ 98 ∷ []) ++ leaf_field)
    × Is (presence climbing) (
    (10 ∷ 170 ∷ 2 ∷ 10 ∷ 2 ∷ 97 ∷ 98 ∷ 18 ∷ 200 ∷ 1 ∷ [])
    ++ replicate 200 7
    ++ leaf_field
    ++ (34 ∷ 39 ∷ 8 ∷ 1 ∷ 18 ∷ 1 ∷ 0 ∷ 26 ∷ 32 ∷ [])
    ++ replicate 32 3
    ++ (34 ∷ 37 ∷ 8 ∷ 1 ∷ 18 ∷ 33 ∷ 0 ∷ [])
    ++ replicate 32 9
    )
unfolding varint_in varint bytes_tag message_field bytes_field number_field leaf_bytes inner_bytes existence_bytes all_of onward only_if not_zero step_in length_right existence_in
    field_alone message_in
presences = ((refl, refl), (refl, refl))

absences :
    Is (between (some alone) none) ((18 ∷ 22 ∷ 10 ∷ 1 ∷ 109 ∷ 18 ∷ 17 ∷ 10 ∷ 1 ∷ 97 ∷ 18 ∷ 1 ∷ 98 ∷ []) ++ leaf_field)
    × Is (between none (some alone)) ((18 ∷ 22 ∷ 10 ∷ 1 ∷ 109 ∷ 26 ∷ 17 ∷ 10 ∷ 1 ∷ 97 ∷ 18 ∷ 1 ∷ 98 ∷ []) ++ leaf_field)
    × Is (between (some least) (some greatest)) (
    (18 ∷ 121 ∷ 10 ∷ 1 ∷ 109 ∷ 18 ∷ 58 ∷ 10 ∷ 1 ∷ 97 ∷ 18 ∷ 1 ∷ 98 ∷ [])
    ++ leaf_field
    ++ (34 ∷ 39 ∷ 8 ∷ 1 ∷ 18 ∷ 1 ∷ 0 ∷ 26 ∷ 32 ∷ [])
    ++ replicate 32 3
    ++ (26 ∷ 56 ∷ 10 ∷ 1 ∷ 122 ∷ 18 ∷ 1 ∷ 121 ∷ [])
    ++ leaf_field
    ++ (34 ∷ 37 ∷ 8 ∷ 1 ∷ 18 ∷ 33 ∷ 0 ∷ [])
    ++ replicate 32 4
    )
unfolding varint_in varint bytes_tag message_field bytes_field number_field leaf_bytes inner_bytes existence_bytes nonexistence all_of onward only_if not_zero step_in length_right existence_in
    neighbour_from nonexistence_in field_alone message_in
absences = ((refl, refl), (refl, refl), (refl, refl))

-- nothing; a byte over; a field too short
ends :
    No []
    × No ((10 ∷ 17 ∷ 10 ∷ 1 ∷ 97 ∷ 18 ∷ 1 ∷ 98 ∷ []) ++ leaf_field ++ (0 ∷ []))
    × No ((10 ∷ 18 ∷ 10 ∷ 1 ∷ 97 ∷ 18 ∷ 1 ∷ 98 ∷ []) ++ leaf_field)
unfolding varint_in varint bytes_tag message_field bytes_field number_field leaf_bytes all_of onward only_if not_zero step_in length_right existence_in neighbour_from nonexistence_in
    field_alone message_in
ends = (refl, refl, refl)

-- a varint that is not the shortest; value before key; the key twice; a field 5; an empty key; an empty suffix written out
others :
    No ((10 ∷ 145 ∷ 0 ∷ 10 ∷ 1 ∷ 97 ∷ 18 ∷ 1 ∷ 98 ∷ []) ++ leaf_field)
    × No ((10 ∷ 17 ∷ 18 ∷ 1 ∷ 98 ∷ 10 ∷ 1 ∷ 97 ∷ []) ++ leaf_field)
    × No ((10 ∷ 20 ∷ 10 ∷ 1 ∷ 97 ∷ 10 ∷ 1 ∷ 97 ∷ 18 ∷ 1 ∷ 98 ∷ []) ++ leaf_field)
    × No ((10 ∷ 20 ∷ 10 ∷ 1 ∷ 97 ∷ 18 ∷ 1 ∷ 98 ∷ []) ++ leaf_field ++ (42 ∷ 1 ∷ 0 ∷ []))
    × No ((10 ∷ 16 ∷ 10 ∷ 0 ∷ 18 ∷ 1 ∷ 98 ∷ []) ++ leaf_field)
    × No ((10 ∷ 58 ∷ 10 ∷ 1 ∷ 97 ∷ 18 ∷ 1 ∷ 98 ∷ []) ++ leaf_field ++ (34 ∷ 39 ∷ 8 ∷ 1 ∷ 18 ∷ 33 ∷ 0 ∷ []) ++ replicate 32 9 ++ (26 ∷ 0 ∷ []))
unfolding varint_in varint bytes_tag message_field bytes_field number_field leaf_bytes all_of onward only_if not_zero step_in length_right existence_in neighbour_from nonexistence_in
    field_alone message_in
others = (refl, refl, refl, refl, refl, refl)

-- operation codes: the length op written out, another prefix, another hash; inner prefix 1; no neighbour; both exist and nonexist; a batch
codes :
    No ((10 ∷ 19 ∷ 10 ∷ 1 ∷ 97 ∷ 18 ∷ 1 ∷ 98 ∷ []) ++ (26 ∷ 11 ∷ 8 ∷ 1 ∷ 16 ∷ 1 ∷ 24 ∷ 1 ∷ 32 ∷ 0 ∷ 42 ∷ 1 ∷ 1 ∷ []))
    × No ((10 ∷ 17 ∷ 10 ∷ 1 ∷ 97 ∷ 18 ∷ 1 ∷ 98 ∷ []) ++ (26 ∷ 9 ∷ 8 ∷ 1 ∷ 16 ∷ 1 ∷ 24 ∷ 1 ∷ 42 ∷ 1 ∷ 0 ∷ []))
    × No ((10 ∷ 17 ∷ 10 ∷ 1 ∷ 97 ∷ 18 ∷ 1 ∷ 98 ∷ []) ++ (26 ∷ 9 ∷ 8 ∷ 2 ∷ 16 ∷ 1 ∷ 24 ∷ 1 ∷ 42 ∷ 1 ∷ 1 ∷ []))
    × No ((10 ∷ 56 ∷ 10 ∷ 1 ∷ 97 ∷ 18 ∷ 1 ∷ 98 ∷ []) ++ leaf_field ++ (34 ∷ 37 ∷ 8 ∷ 1 ∷ 18 ∷ 33 ∷ 1 ∷ []) ++ replicate 32 9)
    × No (18 ∷ 3 ∷ 10 ∷ 1 ∷ 109 ∷ [])
    × No ((10 ∷ 17 ∷ 10 ∷ 1 ∷ 97 ∷ 18 ∷ 1 ∷ 98 ∷ []) ++ leaf_field ++ (18 ∷ 22 ∷ 10 ∷ 1 ∷ 109 ∷ 18 ∷ 17 ∷ 10 ∷ 1 ∷ 97 ∷ 18 ∷ 1 ∷ 98 ∷ []) ++ leaf_field)
    × No ((26 ∷ 17 ∷ 10 ∷ 1 ∷ 97 ∷ 18 ∷ 1 ∷ 98 ∷ []) ++ leaf_field)
unfolding varint_in varint bytes_tag message_field bytes_field number_field leaf_bytes all_of onward only_if not_zero step_in length_right existence_in neighbour_from nonexistence_in
    field_alone message_in
codes = (refl, refl, refl, refl, refl, refl, refl)

-- raw lengths: a key of 256 bytes is taken, of 257 isn't; nor is a value of 4,097
lengths :
    Is (presence (record { key = replicate 256 5; value = 98 ∷ []; steps = [] }))
    ((10 ∷ 145 ∷ 2 ∷ 10 ∷ 128 ∷ 2 ∷ []) ++ replicate 256 5 ++ (18 ∷ 1 ∷ 98 ∷ []) ++ leaf_field)
    × No ((10 ∷ 146 ∷ 2 ∷ 10 ∷ 129 ∷ 2 ∷ []) ++ replicate 257 5 ++ (18 ∷ 1 ∷ 98 ∷ []) ++ leaf_field)
    × No ((10 ∷ 146 ∷ 32 ∷ 10 ∷ 1 ∷ 97 ∷ 18 ∷ 129 ∷ 32 ∷ []) ++ replicate 4097 5 ++ leaf_field)
unfolding varint_in varint bytes_tag message_field bytes_field number_field leaf_bytes existence_bytes all_of onward only_if not_zero step_in length_right existence_in
    neighbour_from nonexistence_in field_alone message_in
lengths = ((refl, refl), refl, refl)

-- the calls, with a stand-in for SHA-256 that says the first byte 32 times
abbrev shown32 : Bytes → Bytes
shown32 x = replicate 32 (get_or x 0 0)

-- the record of key a, value b, and its message
abbrev alone_record : Bytes
alone_record = (72 ∷ 0 ∷ 0 ∷ 0 ∷ 16 ∷ 0 ∷ 0 ∷ 0 ∷ []) ++ replicate 32 97 ++ replicate 32 98

abbrev alone_message : Bytes
alone_message = (10 ∷ 17 ∷ 10 ∷ 1 ∷ 97 ∷ 18 ∷ 1 ∷ 98 ∷ []) ++ leaf_field

abbrev lending : Bytes → Bytes → Bytes → Bytes → Bytes → Lent
lending asked key value key2 value2 =
    record { asked = asked; first = record { key = key; value = value }; second = record { key = key2; value = value2 } }

-- written with just enough room; 10 before 15, 15 before 9, 9 with a byte less; 15 for a key, a value or a key asked for that hashes to something else, has no byte or
-- 257, and for a leaf too many
writing :
    (written_from shown32 (proof_in alone_record) (lending (97 ∷ []) (97 ∷ []) (98 ∷ []) [] []) 19 ≡ accepted alone_message)
    × (written_from shown32 (proof_in (alone_record ++ (0 ∷ []))) (lending [] [] [] [] []) 0 ≡ refused 10)
    × (written_from shown32 (proof_in alone_record) (lending (97 ∷ []) (99 ∷ []) (98 ∷ []) [] []) 18 ≡ refused 15)
    × (written_from shown32 (proof_in alone_record) (lending (97 ∷ []) (97 ∷ []) (98 ∷ []) [] []) 18 ≡ refused 9)
    × (written_from shown32 (proof_in alone_record) (lending (97 ∷ []) (97 ∷ []) (99 ∷ []) [] []) 19 ≡ refused 15)
    × (written_from shown32 (proof_in alone_record) (lending (99 ∷ []) (97 ∷ []) (98 ∷ []) [] []) 19 ≡ refused 15)
    × (written_from shown32 (proof_in alone_record) (lending [] (97 ∷ []) (98 ∷ []) [] []) 19 ≡ refused 15)
    × (written_from shown32 (proof_in alone_record) (lending (97 ∷ []) (replicate 257 97) (98 ∷ []) [] []) 600 ≡ refused 15)
    × (written_from shown32 (proof_in alone_record) (lending (97 ∷ []) (97 ∷ []) (98 ∷ []) (97 ∷ []) (98 ∷ [])) 19 ≡ refused 15)
unfolding varint_in varint bytes_tag message_field bytes_field number_field leaf_bytes existence_bytes all_of slice field le step_count is_presence presence_in left_length left_part
    right_part flags neighbours_fit is_absence proof_in length_right unlent hashes_to leaf_fits fitted written_from
writing = (refl, refl, refl, refl, refl, refl, refl, refl, refl)

reading :
    (read shown32 alone_message 72 ≡ accepted (presence alone))
    × (record_of shown32 (presence alone) ≡ alone_record)
    × (read shown32 (alone_message ++ (0 ∷ [])) 0 ≡ refused 10)
    × (read shown32 alone_message 71 ≡ refused 9)
unfolding varint_in varint bytes_tag message_field bytes_field number_field leaf_bytes existence_bytes all_of onward only_if not_zero step_in length_right existence_in neighbour_from
    nonexistence_in field_alone message_in le presence_bytes fitted read_from read
reading = (refl, refl, refl, refl)

-- the longest messages there are
abbrev longest : Presence
longest = record { key = replicate 256 5; value = replicate 4096 5; steps = replicate 256 (record { side = false; sibling = replicate 32 5 }) }

sizes :
    (length (message_bytes (presence longest)) ≡ 14868)
    × (length (message_bytes (absence (record { key = replicate 256 5; leftward = some longest; rightward = some longest }))) ≡ 29999)
unfolding varint_in varint bytes_tag message_field bytes_field number_field leaf_bytes inner_bytes existence_bytes nonexistence
sizes = (refl, refl)
