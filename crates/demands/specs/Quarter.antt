-- Document 02, 2026-14: what the figures of a range are that were given, over the contract. Assumes nothing.
use Rattle.std.specs.Prelude.{ℕ, ◌+◌, ◌*◌, ◌-◌, ◌≤◌, ◌≡◌, [], length, drop}
use Rattle.terms.specs.Bits.{Bytes}
use Rattle.terms.specs.Fields.{field, slice, zero_bytes}
use Rattle.meaning.specs.Tree.{VTree, grants_in}
use Rattle.quarter.specs.Figures as quarter
use Rattle.quarter.specs.Figures.{versions, different, nodes_over, records_over}
use Rattle.refusals.specs.Tables.{KeptRange}
use Rattle.layout.specs.Stores.{store_of}
use Rattle.promises.specs.Calls.{SoundBytes}
use Rattle.demands.specs.Claims.{tree_of_version}

-- 16 bytes with the figures of a tree, 4 bytes each: leaves, inner nodes, longest path, sum of path lengths.
pub record FiguresAre (x : Bytes) (t : VTree) : Type 0 where
  pub leaves : field 0 4 x ≡ quarter.leaves t
  pub inners : field 4 4 x ≡ quarter.inners t
  pub longest : field 8 4 x ≡ quarter.longest t
  pub path_sum : field 12 4 x ≡ quarter.path_sum t
  pub grants : field 0 4 x ≡ length (grants_in t)
  pub empty : grants_in t ≡ [] → x ≡ zero_bytes 16
  pub few : quarter.leaves t + quarter.inners t ≤ 16384
  pub short : quarter.longest t ≤ 256
  pub small_sum : quarter.path_sum t ≤ 4194304

-- The figures of the bytes s from version first to last were given: t is left of the room, and g told.
pub record GivesFigures (first last : ℕ) (s room t g : Bytes) : Type 0 where
  pub sound : SoundBytes s
  pub range : KeptRange s first last
  pub each : (v : ℕ) → first ≤ v → v ≤ last → FiguresAre (slice (16 * (v - first)) 16 t) (tree_of_version s v)
  -- versions with one tree, as from one publishing to the next, have the same bytes, and the rest of the room stays
  pub alike : (v w : ℕ) → first ≤ v → v ≤ last → first ≤ w → w ≤ last → tree_of_version s v ≡ tree_of_version s w →
      slice (16 * (v - first)) 16 t ≡ slice (16 * (w - first)) 16 t
  pub rest : drop (16 * (last - first + 1)) t ≡ drop (16 * (last - first + 1)) room
  pub distinct : field 0 4 g ≡ different (nodes_over (store_of s) (versions first last))
  pub records : field 4 4 g ≡ records_over (store_of s) (versions first last)
  pub few_distinct : field 0 4 g ≤ 16384
  pub few_records : field 4 4 g ≤ 16777216
