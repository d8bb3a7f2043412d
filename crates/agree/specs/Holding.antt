-- Document 01, 'Reading and proving', 'a slot matches a version and place'. Assumes nothing.
use Rattle.std.specs.Prelude.{ℕ, Bool, false}
use Rattle.terms.specs.Bits.{Place}
use Rattle.terms.specs.Records.{Slot, free, used, spoiled}
use Rattle.meaning.specs.Store.{is_node}

-- A slot holds the node (v, p).
abbrev pub node_here : ℕ → Place → Slot → Bool
node_here v p free = false
node_here v p (used r) = is_node v p r
node_here v p (spoiled x) = false
