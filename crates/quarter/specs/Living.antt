-- How the figures are counted without walking a tree: over the slots, by the lifetimes of their records. No public
-- promise reaches this file: that these counts are those over the trees is a theorem. Assumes nothing.
use Rattle.std.specs.Prelude.{ℕ, suc, ◌+◌, max, Bool, false, cond, ◌&&◌, not, List, [], ◌∷◌, map, length, leb}
use Rattle.terms.specs.Records.{Body, leaf_body, inner_body, Record, Slot, free, used, spoiled, Store}
use Rattle.meaning.specs.Store.{retired_by, tree_at_version}
use Rattle.quarter.specs.Figures.{Figures, figures_of}

-- A record lives at some version from first to last: it begins by the last one, and isn't retired by the first.
unfoldable pub lives_in : ℕ → ℕ → Record → Bool
lives_in first last r = leb r.version last && not (retired_by first r)

-- What a record gives to a figure; the path to a leaf has as many steps as its place has bits.
abbrev pub given_by : (ℕ → ℕ) → ℕ → ℕ → Body → ℕ
given_by leaf inner n (leaf_body k x) = leaf n
given_by leaf inner n (inner_body l r) = inner

abbrev pub given : (ℕ → ℕ) → ℕ → Record → ℕ
given leaf inner r = given_by leaf inner (length r.place) r.body

-- Where a record passes a test it gives what f says, else nothing.
abbrev pub only_if : (Record → Bool) → (Record → ℕ) → Record → ℕ
only_if test f r = cond (test r) (f r) 0

-- What the records in the slots give, taken together.
abbrev pub over_slots : (ℕ → ℕ → ℕ) → (Record → ℕ) → List Slot → ℕ
over_slots together f [] = 0
over_slots together f (free ∷ s) = over_slots together f s
over_slots together f (used r ∷ s) = together (f r) (over_slots together f s)
over_slots together f (spoiled x ∷ s) = over_slots together f s

-- The four numbers of a version with a leaf more, and with an inner node more.
abbrev pub with_leaf : ℕ → Figures → Figures
with_leaf n f =
    record { leaves = suc f.leaves; inners = f.inners; longest = max n f.longest; path_sum = n + f.path_sum }

abbrev pub with_inner : Figures → Figures
with_inner f = record { leaves = f.leaves; inners = suc f.inners; longest = f.longest; path_sum = f.path_sum }

-- With a slot more: where its record lives at the version, by what it is.
abbrev pub body_adds : ℕ → Body → Figures → Figures
body_adds n (leaf_body k x) f = with_leaf n f
body_adds n (inner_body l r) f = with_inner f

abbrev pub slot_lives : ℕ → ℕ → Slot → Bool
slot_lives first last free = false
slot_lives first last (used r) = lives_in first last r
slot_lives first last (spoiled x) = false

abbrev pub slot_adds : ℕ → Slot → Figures → Figures
slot_adds v free f = f
slot_adds v (used r) f = cond (lives_in v v r) (body_adds (length r.place) r.body f) f
slot_adds v (spoiled x) f = f

-- The four numbers of a version, and the distinct records of a range.
unfoldable pub living_figures : ℕ → List Slot → Figures
living_figures v s = record {
  leaves = over_slots ◌+◌ (only_if (lives_in v v) (given (λ n. 1) 0)) s;
  inners = over_slots ◌+◌ (only_if (lives_in v v) (given (λ n. 0) 1)) s;
  longest = over_slots max (only_if (lives_in v v) (given (λ n. n) 0)) s;
  path_sum = over_slots ◌+◌ (only_if (lives_in v v) (given (λ n. n) 0)) s;
}

unfoldable pub living_records : ℕ → ℕ → List Slot → ℕ
living_records first last s = over_slots ◌+◌ (only_if (lives_in first last) (λ r. 1)) s

-- The four numbers of each of some versions.
abbrev pub figures_over : Store → List ℕ → List Figures
figures_over st vs = map (λ v. figures_of (tree_at_version st v)) vs
