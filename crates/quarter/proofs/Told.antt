-- The numbers of a range read back from their bytes: those of the i-th version are 16 bytes at 16 i, and a version without a grant has 16 zero bytes.
-- Assumes nothing.
use Prim.Native.Nat.{ℕ, zero, suc, ◌+◌, ◌*◌, ◌<◌, ◌≤◌}
use native.Mathlib.Omega.{arith}
use mathlib.Core.Path.{◌≡◌, refl, ap, sym, ◌∙◌}
use mathlib.Core.List.{List, [], ◌∷◌, ◌++◌, map, append_assoc, append-nil}
use lib.ListN.{length, get_or, take, drop, length-append}
use lib.Seq.{take_at, drop-append-add}
use Rattle.terms.specs.Bits.{Bytes}
use Rattle.terms.specs.Fields.{le, num, field, slice, flat, zero_bytes}
use Rattle.terms.specs.Records.{Store}
use Rattle.terms.specs.Form.{top32}
use Rattle.terms.proofs.Fields.{num_le, length_le, cuts, cuts_flat, slice_between}
use Rattle.meaning.specs.Tree.{grants_at, tree_of, unversioned, VTree, vnone, vleaf, vinner, grants_in}
use Rattle.meaning.specs.Store.{tree_at_version}
use Rattle.meaning.specs.Sound.{Kept, Sound}
use Rattle.histories.proofs.Theorems.{sound_tree_of_grants}
use Rattle.quarter.specs.Figures.{leaves, inners, longest, path_sum, Figures, figures_of, figures_bytes, versions_from}
use Rattle.quarter.specs.Living.{figures_over}

-- The four fields of 16 bytes.
module _ (f : Figures) where
  abbrev fields : List Bytes
  fields = le 4 f.leaves ∷ le 4 f.inners ∷ le 4 f.longest ∷ le 4 f.path_sum ∷ []

  cut : (i : ℕ) → get_or (cuts (4 ∷ 4 ∷ 4 ∷ 4 ∷ []) 0 (figures_bytes f)) i [] ≡ get_or fields i []
  unfolding figures_bytes
  cut i =
      ap (λ x. get_or x i []) (cuts_flat (4 ∷ 4 ∷ 4 ∷ 4 ∷ []) fields
      (length_le 4 f.leaves, (length_le 4 f.inners, (length_le 4 f.longest, (length_le 4 f.path_sum, tt)))))

  pub leaves_told : f.leaves ≤ top32 → field 0 4 (figures_bytes f) ≡ f.leaves
  unfolding field
  leaves_told h = ap num (cut 0) ∙ num_le 4 f.leaves (omega arith)

  pub inners_told : f.inners ≤ top32 → field 4 4 (figures_bytes f) ≡ f.inners
  unfolding field
  inners_told h = ap num (cut 1) ∙ num_le 4 f.inners (omega arith)

  pub longest_told : f.longest ≤ top32 → field 8 4 (figures_bytes f) ≡ f.longest
  unfolding field
  longest_told h = ap num (cut 2) ∙ num_le 4 f.longest (omega arith)

  pub sum_told : f.path_sum ≤ top32 → field 12 4 (figures_bytes f) ≡ f.path_sum
  unfolding field
  sum_told h = ap num (cut 3) ∙ num_le 4 f.path_sum (omega arith)

  pub figures_long : length (figures_bytes f) ≡ 16
  unfolding figures_bytes
  figures_long = simp (length-append, length_le) refl

module _ (st : Store) where
  -- The bytes of n versions from v on.
  pub versions_long : (v n : ℕ) → length (flat (map figures_bytes (figures_over st (versions_from v n)))) ≡ 16 * n
  versions_long v zero = refl
  versions_long v (suc n) =
      length-append (figures_bytes (figures_of (tree_at_version st v))) (flat (map figures_bytes (figures_over st (versions_from (suc v) n))))
      ∙ omega (arith, figures_long (figures_of (tree_at_version st v)), versions_long (suc v) n)

  pub version_told : (v n i : ℕ) (rest : Bytes) → i < n →
      slice (16 * i) 16 (flat (map figures_bytes (figures_over st (versions_from v n))) ++ rest) ≡ figures_bytes (figures_of (tree_at_version st (v + i)))
  unfolding slice
  version_told v zero i rest h = absurd (omega arith)
  version_told v (suc n) zero rest h =
      let f = figures_bytes (figures_of (tree_at_version st v)) in
      let more = flat (map figures_bytes (figures_over st (versions_from (suc v) n))) in
      let here : v ≡ v + 0 = omega arith in
      ap (take 16) (append_assoc f more rest) ∙ take_at f (more ++ rest) 16 (figures_long (figures_of (tree_at_version st v)))
      ∙ ap (λ w. figures_bytes (figures_of (tree_at_version st w))) here
  version_told v (suc n) (suc i) rest h =
      let f = figures_bytes (figures_of (tree_at_version st v)) in
      let more = flat (map figures_bytes (figures_over st (versions_from (suc v) n))) in
      let far : 16 * suc i ≡ length f + 16 * i = omega (arith, figures_long (figures_of (tree_at_version st v))) in
      let next : suc v + i ≡ v + suc i = omega arith in
      ap (λ w. take 16 (drop w ((f ++ more) ++ rest))) far
      ∙ ap (λ x. take 16 (drop (length f + 16 * i) x)) (append_assoc f more rest)
      ∙ ap (take 16) (drop-append-add f (more ++ rest) (16 * i))
      ∙ version_told (suc v) n i rest (omega arith)
      ∙ ap (λ w. figures_bytes (figures_of (tree_at_version st w))) next

-- The two totals, 4 bytes each.
pub distinct_told : (d n : ℕ) → d ≤ top32 → field 0 4 (le 4 d ++ le 4 n) ≡ d
unfolding field
distinct_told d n h = ap num (slice_between [] (le 4 d) (le 4 n) 0 4 refl (length_le 4 d)) ∙ num_le 4 d (omega arith)

pub records_told : (d n : ℕ) → n ≤ top32 → field 4 4 (le 4 d ++ le 4 n) ≡ n
unfolding field
records_told d n h =
    ap (λ x. num (slice 4 4 (le 4 d ++ x))) (sym (append-nil (le 4 n)))
    ∙ ap num (slice_between (le 4 d) (le 4 n) [] 4 4 (length_le 4 d) (length_le 4 n)) ∙ num_le 4 n (omega arith)

-- A kept version of a sound store that holds no grant has no node.
no_node : (t : VTree) → unversioned t ≡ unversioned vnone → t ≡ vnone
no_node vnone e = refl
no_node (vleaf v g) e = let z : ◌≡◌ {A = ℕ} 0 1 = cc in absurd (omega arith)
no_node (vinner v l r) e = let z : ◌≡◌ {A = ℕ} 0 1 = cc in absurd (omega arith)

tree_of_none : tree_of [] ≡ unversioned vnone
unfolding tree_of grants_at
tree_of_none = refl

pub no_grant_no_node : (leaf_hash inner_hash : Bytes → Bytes → Bytes) (st : Store) → Sound leaf_hash inner_hash st → (v : ℕ) → Kept st v →
    grants_in (tree_at_version st v) ≡ [] → tree_at_version st v ≡ vnone
no_grant_no_node leaf_hash inner_hash st sound v kept e =
    no_node (tree_at_version st v) ((sound_tree_of_grants leaf_hash inner_hash st sound v kept).0 ∙ ap tree_of e ∙ tree_of_none)

pub nothing_told : figures_bytes (figures_of vnone) ≡ zero_bytes 16
unfolding figures_bytes leaves inners longest path_sum zero_bytes le
nothing_told = refl
