-- What an accepted rescue is worth, in the words of document 02, request 2026-08. Assumes nothing.
use Rattle.std.specs.Prelude.{ℕ, ◌+◌, ◌≤◌, ◌<◌, ◌≡◌, ◌↔◌, false, length, get_or}
use Rattle.std.proofs.Math.Option.{some}
use Rattle.terms.specs.declared.Form.TheVariants.{Counted as counted}
use Rattle.terms.specs.Bits.{Bytes}
use Rattle.terms.specs.Records.{Record, free, used, Store}
use Rattle.meaning.specs.Store.{is_node, free_slots, marked, root_of, tree_at_version}
use Rattle.meaning.specs.Sound.{At, Kept, Sound}
use Rattle.nodehash.specs.Node.{leaf_hash, inner_hash}
use Rattle.layout.specs.Stores.{slot_in, store_of, store_bytes}
use Rattle.rescue_rules.specs.Rescue.{source_tree, fresh, Run}
use Rattle.rescue_bytes.specs.Rescues.{slots_in, Report}

-- Every kept version of the store that bytes hold has a root.
abbrev pub AllRooted : Bytes → Type 0
AllRooted s = (v : ℕ) → Kept (store_of s) v → (q : Record) × (root_of (store_of s) v ≡ some q)

-- The target t of a rescue of the source s that was accepted with this report.
pub record Worth (oldest latest : ℕ) (s t : Bytes) (r : Report) : Type 0 where
  pub sound : Sound leaf_hash inner_hash (store_of t)
  pub bytes : t ≡ store_bytes (store_of t)
  pub begins : (store_of t).oldest ≡ r.first  -- it keeps the versions from the first reported to the latest given
  pub ends : (store_of t).latest ≡ latest
  pub low : oldest ≤ r.first
  pub high : r.first ≤ latest
  pub rooted : AllRooted t  -- each of them has a root, and the tree that the source has for it
  pub trees : (v : ℕ) → Kept (store_of t) v → tree_at_version (store_of t) v ≡ source_tree (slots_in s) v
  -- no longer run would do, with any setting of retired-since
  pub longest : (f m : ℕ) → f + m ≡ latest → oldest ≤ f → Run leaf_hash inner_hash (slots_in s) f m → r.first ≤ f
  -- records keep their slots, and all but retired-since; that is set afresh from the run's trees
  pub slots : (i : ℕ) (q : Record) → At (store_of t) i q →
      (x : Record) × At (store_of s) i x × (q ≡ marked q.retired x)
      × ((more : ℕ) → r.first + more ≡ latest → q.retired ≡ fresh (slots_in s) r.first more q.version q.place)
  pub lowest : (i : ℕ) (q : Record) → At (store_of t) i q → (j : ℕ) (x : Record) → j < i → At (store_of s) j x →
      is_node q.version q.place x ≡ false
  -- the numbers are those of the two buffers compared: kept as it was exactly if its slot has the same bytes in both
  pub same_bytes_lem : (i : ℕ) (q x : Record) → At (store_of t) i q → At (store_of s) i x →
      (x.retired ≡ q.retired) ↔ (slot_in counted i s ≡ slot_in counted i t)
  pub adds_up : r.numbers.same + r.numbers.other + r.numbers.out + free_slots (slots_in s) ≡ length (slots_in s)
  pub kept_adds_up : r.numbers.same + r.numbers.other + free_slots (slots_in t) ≡ length (slots_in s)

-- Nothing changed and nothing left out.
abbrev pub AsItWas : Report → Type 0
AsItWas r = (r.numbers.other ≡ 0) × (r.numbers.out ≡ 0)
