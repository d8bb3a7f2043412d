-- Protocol Buffers, 'Encoding', as far as document 02, 2026-02, needs it; default values left out. Assumes nothing.
use Rattle.std.specs.Prelude.{ℕ, zero, suc, ◌+◌, ◌*◌, ◌/◌, ◌%◌, cond, [], ◌∷◌, ◌++◌, length, ltb, eqb}
use Rattle.terms.specs.Bits.{Bytes}

-- The shortest varint, of at most n + 1 bytes: seven bits in each, the lowest first, and 128 added where one follows.
unfoldable pub varint_in : ℕ → ℕ → Bytes
varint_in zero x = x ∷ []
varint_in (suc n) x = cond (ltb x 128) (x ∷ []) ((128 + x % 128) ∷ varint_in n (x / 128))

unfoldable pub varint : ℕ → Bytes
varint x = varint_in 9 x

-- Before a field stands its tag: its number, and 0 for a number or 2 for bytes and messages, which begin with a length.
unfoldable pub bytes_tag : ℕ → Bytes
bytes_tag n = varint (8 * n + 2)

-- Field n that holds a message; a message has no default.
unfoldable pub message_field : ℕ → Bytes → Bytes
message_field n x = bytes_tag n ++ (varint (length x) ++ x)

-- Field n that holds bytes; no bytes, the default, are left out.
unfoldable pub bytes_field : ℕ → Bytes → Bytes
bytes_field n x = cond (eqb (length x) 0) [] (message_field n x)

-- Field n that holds a number or an operation code; 0, the default, is left out.
unfoldable pub number_field : ℕ → ℕ → Bytes
number_field n x = cond (eqb x 0) [] (varint (8 * n) ++ varint x)
