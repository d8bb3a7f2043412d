-- A read finds by scans or, with document 02's 2026-05, by a table lent with the store. Assumes nothing.
use Rattle.std.specs.Prelude.{ℕ, cond, List, length, eqb}
use Rattle.std.proofs.Math.Option.{Option, none, some}
use Rattle.terms.specs.declared.Form.TheVariants.{Counted as counted}
use Rattle.terms.specs.Bits.{Bytes}
use Rattle.meaning.specs.Sight.{Looking, scan}
use Rattle.indexed.specs.Index.{by_table}
use Rattle.layout.specs.Sizes.{room_of}
use Rattle.layout.specs.Headers.{Headed, refusal, header_of}
use Rattle.layout.specs.Stores.{store_of}

-- What is tested first: a table has as many entries as the capacity, else 1, with the store's own 1.
abbrev pub header_for : Bytes → Option (List ℕ) → Headed
header_for s none = header_of counted s
header_for s (some table) = cond (eqb (length table) (room_of counted (length s))) (header_of counted s) (refusal 1)

abbrev pub looking_in : Bytes → Option (List ℕ) → Looking
looking_in s none = scan (store_of s)
looking_in s (some table) = by_table table (store_of s)
