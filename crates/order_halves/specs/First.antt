-- Where the search by halving ends. Assumes nothing.
use Rattle.std.specs.Prelude.{ℕ, List}
use Rattle.terms.specs.Bits.{Bytes}
use Rattle.terms.specs.Records.{Slot}
use Rattle.ordered.specs.Ordered.{Between}

-- The first of n entries that is not before a key is at k; where all are before it, k is n.
abbrev pub First : List Slot → List ℕ → ℕ → Bytes → ℕ → Type 0
First s t n key k = Between s t n key k k
