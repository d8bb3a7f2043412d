-- Document 02, request 2026-01, over the bytes of a store: what a walk from a place on counts and lists. No public
-- promise reaches this file. Assumes nothing.
use Rattle.std.specs.Prelude.{ℕ, ◌+◌, ◌*◌, ◌-◌, ◌<◌, ◌≤◌, ◌≡◌, Bool, true, List, length}
use Rattle.terms.specs.declared.Form.TheVariants.{Counted as counted}
use Rattle.terms.specs.Bits.{Bytes}
use Rattle.place.specs.declared.Place as place
use Rattle.place.specs.Place.{Proper}
use Rattle.layout.specs.Headers.{size_right}
use Rattle.layout.specs.Stores.{store_of}
use Rattle.changed.specs.Changes.{Item, items, item_size, list_bytes}
use Rattle.changed.specs.Walk.{visits_at, listed}
use Rattle.changes_guess.specs.Apart.{Apart}
use Rattle.changes_top.specs.declared.Top as top
use Rattle.changes_top.specs.Tops.{top_tree, TopRight}
use Rattle.changes_put.specs.Puts.{put_into}
use Rattle.changes_walk.specs.declared.Walked as declared
use Rattle.changes_walk.specs.declared.Walked.TheVariants.{Passed, Done}

-- How many visits there are from a place on, and which records the list gets there.
unfoldable pub visits_here : Bytes → place.Place → top.Top → top.Top → ℕ
visits_here s p first second = visits_at (256 - p.count) (top_tree s p first) (top_tree s p second)

unfoldable pub items_here : Bytes → place.Place → top.Top → top.Top → List Item
items_here s p first second = items (listed (256 - p.count) p.count (top_tree s p first) (top_tree s p second))

-- Two tops at a place of a store in which no two records share version and place.
pub record Here (s : Bytes) (p : place.Place) (first second : top.Top) : Type 0 where
  pub size : size_right counted (length s) ≡ true
  pub apart : Apart (store_of s)
  pub proper : Proper p
  pub old : TopRight s p first
  pub new : TopRight s p second

-- Where it writes, the budget is enough and so is the room; the numbers of records are small.
pub record Goes (s : Bytes) (p : place.Place) (first second : top.Top) (budget : ℕ) (writes : Bool) (room : Bytes)
    (at : ℕ) : Type 0 where
  pub here : Here s p first second
  pub enough : writes ≡ true → visits_here s p first second ≤ budget
  pub within : writes ≡ true → item_size * (at + length (items_here s p first second)) ≤ length room
  pub small : at + 2 * budget < 9223372036854775808

-- Passed: more visits than the budget, and nothing is written. Done: the visits are taken from the budget, and the
-- records, of 72 bytes each, are put.
abbrev pub WalkSays : Bytes → place.Place → top.Top → top.Top → ℕ → Bool → Bytes → ℕ → declared.Walked → Bytes → Type 0
WalkSays s p first second budget writes room at Passed left = (budget < visits_here s p first second) × (left ≡ room)
WalkSays s p first second budget writes room at (Done b n) left =
    (b + visits_here s p first second ≡ budget)
    × (n ≡ at + length (items_here s p first second))
    × (left ≡ put_into writes at (list_bytes (items_here s p first second)) room)
    × (length (list_bytes (items_here s p first second)) ≡ item_size * length (items_here s p first second))
