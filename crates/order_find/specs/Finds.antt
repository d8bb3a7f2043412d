-- What a search by an ordered table finds. Assumes nothing.
use Rattle.std.specs.Prelude.{ℕ, ◌<◌, ◌≡◌, false, List, get_or, Some, None}
use Rattle.terms.specs.Bits.{Place}
use Rattle.terms.specs.Records.{Record, Slot, free, used}
use Rattle.meaning.specs.Store.{is_node}
use Rattle.std.specs.declared.option.Option as option

-- No slot below the one found holds the node.
abbrev pub NoLower : List Slot → ℕ → Place → option.Option ℕ → Type 0
NoLower s v p (Some i) = (j : ℕ) (q : Record) → j < i → get_or s j free ≡ used q → is_node v p q ≡ false
NoLower s v p None = Unit {0}
