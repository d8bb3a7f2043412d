-- Document 02, request 2026-14: the figures of a range of versions of a sound store, counted over the trees.
use Rattle.std.specs.Prelude.{ℕ, zero, suc, ◌+◌, ◌*◌, ◌-◌, max, Bool, true, false, cond, ◌&&◌, ◌||◌, List, [], ◌∷◌, ◌++◌, map, length, eqb, leb, ltb}
use Rattle.terms.specs.Bits.{Bytes, left, right, Place, longer, same_place}
use Rattle.terms.specs.Fields.{le, flat}
use Rattle.terms.specs.Records.{Store}
use Rattle.meaning.specs.Tree.{VTree, vnone, vleaf, vinner}
use Rattle.meaning.specs.Store.{tree_at_version}
use Rattle.meaning.specs.Calls.{Result, accepted, refuse, is_kept}

-- What a tree's nodes give, taken together: a leaf with n inner nodes above it `leaf n`, an inner node `inner`.
abbrev pub figure : (ℕ → ℕ → ℕ) → (ℕ → ℕ) → ℕ → ℕ → VTree → ℕ
figure together leaf inner n vnone = 0
figure together leaf inner n (vleaf v g) = leaf n
figure together leaf inner n (vinner v l r) =
    together inner (together (figure together leaf inner (suc n) l) (figure together leaf inner (suc n) r))

-- Leaves count one each, and so do inner nodes.
unfoldable pub leaves : VTree → ℕ
leaves t = figure ◌+◌ (λ n. 1) 0 0 t

unfoldable pub inners : VTree → ℕ
inners t = figure ◌+◌ (λ n. 0) 1 0 t

-- The path of a leaf has a step for each inner node above it: the longest path, and the sum of path lengths.
unfoldable pub longest : VTree → ℕ
longest t = figure max (λ n. n) 0 0 t

unfoldable pub path_sum : VTree → ℕ
path_sum t = figure ◌+◌ (λ n. n) 0 0 t

-- The four numbers of a version, 4 bytes each.
abbrev pub Figures : Type 0
Figures = record { leaves : ℕ; inners : ℕ; longest : ℕ; path_sum : ℕ }

abbrev pub figures_of : VTree → Figures
figures_of t = record { leaves = leaves t; inners = inners t; longest = longest t; path_sum = path_sum t }

unfoldable pub figures_bytes : Figures → Bytes
figures_bytes f = flat (le 4 f.leaves ∷ le 4 f.inners ∷ le 4 f.longest ∷ le 4 f.path_sum ∷ [])

-- A range has 1 to 1,024 versions, all of them kept.
unfoldable pub range_right : Store → ℕ → ℕ → Bool
range_right st first last = is_kept st first && is_kept st last && leb first last && ltb (last - first) 1024

-- The n versions from v on, and those of a range.
abbrev pub versions_from : ℕ → ℕ → List ℕ
versions_from v zero = []
versions_from v (suc n) = v ∷ versions_from (suc v) n

unfoldable pub versions : ℕ → ℕ → List ℕ
versions first last = versions_from first (suc last - first)

-- A record is named by its node, its version and place: no two share them. The nodes of a tree that stands at a place.
abbrev pub nodes : Place → VTree → List (ℕ × Place)
nodes p vnone = []
nodes p (vleaf v g) = (v, p) ∷ []
nodes p (vinner v l r) = (v, p) ∷ nodes (longer left p) l ++ nodes (longer right p) r

-- A node stands in a list, and how many different ones do.
abbrev pub among : ℕ × Place → List (ℕ × Place) → Bool
among n [] = false
among n (m ∷ ms) = (eqb n.0 m.0 && same_place n.1 m.1) || among n ms

abbrev pub different : List (ℕ × Place) → ℕ
different [] = 0
different (n ∷ ns) = cond (among n ns) (different ns) (suc (different ns))

-- The nodes of the versions' trees, one tree after the other.
abbrev pub nodes_over : Store → List ℕ → List (ℕ × Place)
nodes_over st [] = []
nodes_over st (v ∷ vs) = nodes [] (tree_at_version st v) ++ nodes_over st vs

-- The records of each version, leaves and inner nodes, added up.
abbrev pub records_over : Store → List ℕ → ℕ
records_over st [] = 0
records_over st (v ∷ vs) = leaves (tree_at_version st v) + inners (tree_at_version st v) + records_over st vs

-- The four numbers for each version; over the range distinct records, and the sum of records over versions.
abbrev pub Quarter : Type 0
Quarter = record { each : List Figures; distinct : ℕ; records : ℕ }

unfoldable pub quarter_of : Store → ℕ → ℕ → Quarter
quarter_of st first last = record {
  each = map (λ v. figures_of (tree_at_version st v)) (versions first last);
  distinct = different (nodes_over st (versions first last));
  records = records_over st (versions first last);
}

-- 8 if the range isn't right, 9 if the numbers, 16 bytes a version, don't fit in the room; else the figures.
unfoldable pub figures : ℕ → ℕ → ℕ → Store → Result Quarter
figures first last room st =
    cond (range_right st first last)
    (cond (ltb room (16 * (suc last - first))) (refuse 9 st)
    (record { answer = accepted (quarter_of st first last); store = st }))
    (refuse 8 st)

-- The numbers by name, as the laws cite them.
abbrev pub figures_size : ℕ
figures_size = 16

abbrev pub most_versions : ℕ
most_versions = 1024
