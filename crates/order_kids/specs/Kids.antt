-- What is known of a table of slots while the guesses of children are looked at. Assumes nothing.
use Rattle.std.specs.Prelude.{ℕ, ◌≡◌, true, List, length}
use Rattle.terms.specs.declared.Form.TheVariants.{Counted as counted}
use Rattle.terms.specs.Bits.{Bytes}
use Rattle.layout.specs.Headers.{size_right}
use Rattle.layout.specs.Stores.{store_of}
use Rattle.ordered.specs.Ordered.{Guide}

-- The store has the right size, and the first n entries are a table to find by.
pub record Tabled (s : Bytes) (t : List ℕ) (n : ℕ) : Type 0 where
  pub size : size_right counted (length s) ≡ true
  pub guide : Guide (store_of s).slots t n
