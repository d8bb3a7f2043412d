-- What is lent beside a record, over bytes, and the lengths of what is written of it. No public promise reaches this
-- file. Assumes nothing.
use Rattle.std.specs.Prelude.{ℕ, ◌+◌, ◌≡◌, Bool, true, cond, length, eqb}
use Rattle.std.proofs.Math.Option.{Option, none, some}
use Rattle.terms.specs.Bits.{Bytes}
use Rattle.terms.specs.Records.{Presence}
use Rattle.sha256.specs.Sha256.{sha256}
use Rattle.proofrecords.specs.ProofBytes.{is_presence, presence_in}
use Rattle.messages.specs.Wire.{varint}
use Rattle.messages.specs.Raws.{path}
use Rattle.messages.specs.Lending.{Leaf, leaf_fits}

abbrev pub leaf : Bytes → Bytes → Leaf
leaf k x = record { key = k; value = x }

-- The record of a neighbour; no bytes, nobody.
unfoldable pub record_in : Bytes → Option Presence
record_in p = cond (eqb (length p) 0) none (some (presence_in p))

abbrev pub InForm : Bytes → Type 0
InForm p = (length p ≡ 0 → ⊥) → is_presence p ≡ true

abbrev pub neighbour_fits : Leaf → Option Presence → Bool
neighbour_fits leaf none = true
neighbour_fits leaf (some p) = leaf_fits sha256 leaf p

-- How many bytes a field of n bytes has.
unfoldable pub field_length : ℕ → ℕ
field_length n = 1 + (length (varint n) + n)

-- How many bytes an existence proof has, by the lengths of its raw key and value.
unfoldable pub existence_length : ℕ → ℕ → Presence → ℕ
existence_length k x p = field_length k + field_length x + 11 + length (path p.steps)

abbrev pub neighbour_length : ℕ → ℕ → Option Presence → ℕ
neighbour_length k x none = 0
neighbour_length k x (some p) = field_length (existence_length k x p)
