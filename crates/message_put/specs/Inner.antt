-- A step's 33 bytes, and what stands before its sibling in the field of its inner op. No public promise reaches this
-- file. Assumes nothing.
use Rattle.std.specs.Prelude.{ℕ, ◌≤◌, cond, [], ◌∷◌, length, get_or, eqb}
use Rattle.terms.specs.Bits.{Bytes}
use Rattle.terms.specs.Fields.{slice}
use Rattle.terms.specs.Records.{Step}

abbrev pub step_of : Bytes → Step
step_of y = record { side = eqb (get_or y 0 0) 1; sibling = slice 1 32 y }

abbrev pub inner_head : ℕ → Bytes
inner_head side = cond (eqb side 1) (34 ∷ 37 ∷ 8 ∷ 1 ∷ 18 ∷ 33 ∷ 0 ∷ []) (34 ∷ 39 ∷ 8 ∷ 1 ∷ 18 ∷ 1 ∷ 0 ∷ 26 ∷ 32 ∷ [])

-- Raw key and value have the right lengths.
pub record Lendable (key value : Bytes) : Type 0 where
  pub key_some : 1 ≤ length key
  pub key_short : length key ≤ 256
  pub value_some : 1 ≤ length value
  pub value_short : length value ≤ 4096
