-- The bytes of a message by its parts: byte 1, key, value, or byte 0, left hash, right hash. Assumes nothing.
use Rattle.std.specs.Prelude.{ℕ, cond, take}
use Rattle.terms.specs.Bits.{Bytes}
use Rattle.hash.specs.BigEndian.{number}
use Rattle.hash.specs.Hash.{hash_bytes}
use Rattle.forgery.specs.Messages.{leaf_message, inner_message}
use Rattle.forged_message.specs.declared.Message.{Message}

unfoldable pub message_bytes : Message → Bytes
message_bytes m =
    cond m.leaf
    (leaf_message (hash_bytes m.first) (hash_bytes m.second))
    (inner_message (hash_bytes m.first) (hash_bytes m.second))

-- The first eight bytes of a hash, as a number.
unfoldable pub first_word : Bytes → ℕ
first_word x = number (take 8 x)
