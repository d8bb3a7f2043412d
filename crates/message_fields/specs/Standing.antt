-- What fields and inner ops that were read from lent bytes are, beside `messages/Reading`: where they stand instead of
-- the bytes themselves. Assumes nothing.
use Rattle.std.specs.Prelude.{ℕ, ◌-◌, ◌<◌, ◌≤◌, ◌≡◌, Bool, true, false, length, drop, Some, None}
use Rattle.std.specs.declared.option.Option as option
use Rattle.std.proofs.Math.Option.{Option, none, some}
use Rattle.terms.specs.Bits.{Bytes}
use Rattle.terms.specs.Fields.{slice}
use Rattle.terms.specs.Records.{Step}
use Rattle.messages.specs.Reading.{Front, field_from}
use Rattle.message_fields.specs.declared.Part.{Part}

-- The field's bytes, and the bytes after it.
abbrev pub part_in : Bytes → option.Option Part → Front Bytes
part_in m None = none
part_in m (Some r) = some (slice r.from (r.to - r.from) m, drop r.to m)

-- Field n, read from `at` on.
pub record Stands (n : ℕ) (m : Bytes) (at : ℕ) (r : option.Option Part) : Type 0 where
  pub is : field_from n (drop at m) ≡ part_in m r
  pub inside : (p : Part) → r ≡ Some p → (at < p.from) × (p.from ≤ p.to) × (p.to ≤ length m)

-- The step that an inner op says: the sibling is what follows the head.
abbrev pub step_by : Bytes → option.Option Bool → Option Step
step_by x (Some false) = some (record { side = false; sibling = drop 7 x })
step_by x (Some true) = some (record { side = true; sibling = drop 5 x })
step_by x None = none
