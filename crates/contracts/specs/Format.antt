-- What format answers and leaves, as the code says it. Assumes nothing.
use Rattle.std.specs.Prelude.{ℕ, cond, length}
use Rattle.terms.specs.declared.Form.TheVariants.{Counted as counted}
use Rattle.terms.specs.Bits.{Bytes}
use Rattle.meaning.specs.Store.{formatted}
use Rattle.layout.specs.Sizes.{room_of}
use Rattle.layout.specs.Headers.{size_right}
use Rattle.layout.specs.Stores.{store_bytes}

abbrev pub format_answer : Bytes → ℕ
format_answer s = cond (size_right counted (length s)) 0 1

-- The store's bytes afterwards; refused, as they were.
abbrev pub format_bytes : Bytes → Bytes
format_bytes s = cond (size_right counted (length s)) (store_bytes (formatted (room_of counted (length s)))) s
