-- Document 02, request 2026-01: what comparing two versions of a sound store answers. Assumes nothing.
use Rattle.std.specs.Prelude.{ℕ, ◌*◌, true, false, cond, ◌&&◌, List, [], length, ltb}
use Rattle.terms.specs.Records.{Store}
use Rattle.meaning.specs.Tree.{grants_in}
use Rattle.meaning.specs.Store.{tree_at_version}
use Rattle.meaning.specs.Calls.{Result, accepted, refuse, is_kept}
use Rattle.changed.specs.Changes.{Change, changed, Item, items}
use Rattle.changed.specs.Visits.{visited}

-- What changed from one version to another.
unfoldable pub changes_of : Store → ℕ → ℕ → List Change
changes_of st first second = changed (grants_in (tree_at_version st first)) (grants_in (tree_at_version st second))

-- How many places are visited, the empty place first.
unfoldable pub visits_of : Store → ℕ → ℕ → ℕ
visits_of st first second = length (visited 256 [] (tree_at_version st first) (tree_at_version st second))

-- 8 if either version isn't kept, 13 if the visits are above the limit, 9 if the list doesn't fit in the room.
unfoldable pub compare : ℕ → ℕ → ℕ → ℕ → Store → Result (List Item)
compare first second limit room st =
    cond (is_kept st first && is_kept st second)
    (cond (ltb limit (visits_of st first second)) (refuse 13 st)
    (cond (ltb room (72 * length (items (changes_of st first second)))) (refuse 9 st)
    (record { answer = accepted (items (changes_of st first second)); store = st })))
    (refuse 8 st)
