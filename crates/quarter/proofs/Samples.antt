-- The desk's store after M6 and after M8, and its store with gaps, worked out by hand from 02's words and computed. Assumes nothing.
use Prim.Native.Nat.{ℕ}
use mathlib.Core.Path.{◌≡◌, refl}
use mathlib.Core.Bool.{Bool, true, false}
use mathlib.Core.List.{List, [], ◌∷◌}
use Rattle.terms.specs.declared.Form.TheVariants.{Counted as counted}
use Rattle.terms.specs.Bits.{Bytes}
use Rattle.terms.specs.Records.{Store}
use Rattle.meaning.specs.Calls.{is_kept}
use Rattle.meaning.specs.Store.{retired_by}
use Rattle.meaning.specs.Computed.{computed}
use Rattle.meaning.specs.Desk.{s₆, s₈}
use Rattle.meaning.specs.DeskGaps.{g₉}
use Rattle.quarter.specs.Figures.{leaves, inners, longest, path_sum, Figures, versions, quarter_of, range_right}
use Rattle.quarter.specs.Living.{lives_in, living_records}

abbrev four : ℕ → ℕ → ℕ → ℕ → Figures
four a b c d = record { leaves = a; inners = b; longest = c; path_sum = d }

-- Versions 0 to 6: none; A, B, C, D at 00, 010, 011, 1; A, C, D at 00, 01, 1, twice; C and D at 0 and 1; C alone; none.
after_m6 : (leaf_hash inner_hash : Bytes → Bytes → Bytes) → quarter_of (s₆ leaf_hash inner_hash) 0 6 ≡ record {
  each = four 0 0 0 0 ∷ four 4 3 3 9 ∷ four 3 2 2 5 ∷ four 3 2 2 5 ∷ four 2 1 1 2 ∷ four 1 0 0 0 ∷ four 0 0 0 0 ∷ [];
  distinct = 14;
  records = 21;
}
unfolding computed leaves inners longest path_sum versions quarter_of
after_m6 leaf_hash inner_hash = refl

-- After the pruning to 4 and M8: D, the root of 4, C at 0, C alone, E alone.
after_m8 : (leaf_hash inner_hash : Bytes → Bytes → Bytes) → quarter_of (s₈ leaf_hash inner_hash) 4 7 ≡ record {
  each = four 2 1 1 2 ∷ four 1 0 0 0 ∷ four 0 0 0 0 ∷ four 1 0 0 0 ∷ [];
  distinct = 5;
  records = 5;
}
unfolding computed leaves inners longest path_sum versions quarter_of
after_m8 leaf_hash inner_hash = refl

-- Versions between two publishings count like any other.
with_gaps : (leaf_hash inner_hash : Bytes → Bytes → Bytes) → quarter_of (g₉ leaf_hash inner_hash) 7 9 ≡ record {
  each = four 4 3 3 9 ∷ four 4 3 3 9 ∷ four 3 2 2 5 ∷ [];
  distinct = 10;
  records = 19;
}
unfolding computed leaves inners longest path_sum versions quarter_of
with_gaps leaf_hash inner_hash = refl

-- 1,024 versions are a range, 1,025 are not.
ranges : List Bool
ranges = range_right long 1 1024 ∷ range_right long 1 1025 ∷ []
  where
    long : Store
    long = record { form = counted; oldest = 0; latest = 2000; slots = [] }

ranges_right : ranges ≡ true ∷ false ∷ []
unfolding ranges range_right is_kept
ranges_right = refl

-- Counted over the slots: 14 records live in some version of 0 to 6, most of them retired by the last.
living_in_range : (leaf_hash inner_hash : Bytes → Bytes → Bytes) → living_records 0 6 (s₆ leaf_hash inner_hash).slots ≡ 14
unfolding computed lives_in living_records retired_by
living_in_range leaf_hash inner_hash = refl
