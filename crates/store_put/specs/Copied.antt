-- The bytes of a store with those of a slot written over. Assumes nothing.
use Rattle.std.specs.Prelude.{ℕ}
use Rattle.terms.specs.declared.Form.TheVariants.{Counted as counted}
use Rattle.terms.specs.Bits.{Bytes}
use Rattle.fields.specs.Written.{written}
use Rattle.layout.specs.Sizes.{slot_at}

-- The bytes with other bytes in slot i, and nothing else changed.
abbrev pub with_bytes : ℕ → Bytes → Bytes → Bytes
with_bytes i x s = written (slot_at counted i) x s
