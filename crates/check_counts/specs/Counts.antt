-- What a count says of the record in a slot. Assumes nothing.
use Rattle.std.specs.Prelude.{ℕ, ◌≡◌}
use Rattle.terms.specs.declared.Form.{Form}
use Rattle.terms.specs.declared.Form.TheVariants.{Counted as counted}
use Rattle.terms.specs.Bits.{Bytes}
use Rattle.terms.specs.Records.{Record, used}
use Rattle.meaning.specs.Counting.{weight}
use Rattle.layout.specs.Stores.{slot_no}

-- In the counted form n is the number of leaves at the record in slot i, by what it says; the plain form has no counts.
abbrev pub FitsAt : Form → Bytes → ℕ → ℕ → Type 0
FitsAt fm s i n = fm ≡ counted → (q : Record) → slot_no fm i s ≡ used q → n ≡ weight q
