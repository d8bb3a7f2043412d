-- The rows of the table of comparisons, document 02, request 2026-01. The keys of the tables part within their first
-- eight bits, so that the places visited from nine bits above the end of a place are those visited from a whole key's.
-- Assumes nothing.
use Rattle.std.specs.Prelude.{ℕ, ◌≡◌, List, []}
use Rattle.terms.specs.Bits.{Place, longer}
use Rattle.terms.specs.Records.{Store}
use Rattle.meaning.specs.Store.{tree_at_version}
use Rattle.changed.specs.Changes.{Item, items}
use Rattle.changed.specs.Visits.{no_deeper, visited}
use Rattle.changed.specs.Compare.{changes_of}

-- A comparison: a store, two versions; the places visited, in order, and the list.
pub data Comparison : Type 0 where
  comparison : Store → ℕ → ℕ → List Place → List Item → Comparison

abbrev pub ComparisonHolds : Comparison → Type 0
ComparisonHolds (comparison st first second places listed) =
    (visited 9 [] (tree_at_version st first) (tree_at_version st second) ≡ places) ×
    (items (changes_of st first second) ≡ listed)

unfoldable pub compared : Unit {0}
unfolding changes_of no_deeper longer
compared = tt
