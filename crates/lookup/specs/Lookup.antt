-- Document 01, 'Reading and proving': the lowest slot that matches is the one found. Assumes nothing.
use Rattle.std.specs.Prelude.{ℕ, ◌<◌, ◌≡◌, Bool, true, false, List, length, get_or, Some, None}
use Rattle.std.proofs.Math.Option.{Option, none, some}
use Rattle.terms.specs.Bits.{Place}
use Rattle.terms.specs.Records.{Record, Slot, free, used, spoiled}
use Rattle.meaning.specs.Store.{find}
use Rattle.std.specs.declared.option.Option as option

-- A slot holds a record in form.
abbrev pub is_used : Slot → Bool
is_used free = false
is_used (used r) = true
is_used (spoiled x) = false

-- What a search found, where this is the record: the number of a slot that holds it, or nothing.
abbrev pub Located : List Slot → Option Record → option.Option ℕ → Type 0
Located s o (Some i) = (i < length s) × ((r : Record) × (get_or s i free ≡ used r) × (o ≡ some r))
Located s o None = o ≡ none

-- What a search for a version and place found.
abbrev pub FoundIn : List Slot → ℕ → Place → option.Option ℕ → Type 0
FoundIn s v p r = Located s (find v p s) r
