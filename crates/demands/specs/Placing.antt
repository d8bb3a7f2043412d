-- Document 01, 'Retirement' and 'Placing', slot by slot, of a batch that was accepted. Assumes nothing.
use Rattle.std.specs.Prelude.{ℕ, ◌<◌, ◌≡◌, map, length, get_or, take}
use Rattle.terms.specs.declared.Form.TheVariants.{Counted as counted}
use Rattle.terms.specs.Bits.{Bytes}
use Rattle.terms.specs.Fields.{le}
use Rattle.terms.specs.Records.{Record, free, used}
use Rattle.meaning.specs.Store.{free_slots, new_records}
use Rattle.meaning.specs.Sound.{At}
use Rattle.histories.specs.Claims.{InTree}
use Rattle.fields.specs.Written.{written}
use Rattle.nodehash.specs.Node.{leaf_hash, inner_hash}
use Rattle.layout.specs.Sizes.{retired_at}
use Rattle.layout.specs.Slots.{slot_bytes}
use Rattle.layout.specs.Stores.{slot_in, store_of}
use Rattle.demands.specs.Claims.{tree_of_version, latest_of}

-- A batch was applied to the bytes s as a number and accepted, and t are the bytes left.
pub record Places (number : ℕ) (s t : Bytes) : Type 0 where
  -- a node of the old tree alone is marked retired since the number, and no other byte of its slot changes
  pub retires : (i : ℕ) (r : Record) → At (store_of s) i r → InTree r (tree_of_version s (latest_of s)) →
      (InTree r (tree_of_version t number) → ⊥) →
      slot_in counted i t ≡ written retired_at (le 4 number) (slot_in counted i s)
  pub keeps : (i : ℕ) (r : Record) → At (store_of s) i r →
      (InTree r (tree_of_version s (latest_of s)) → InTree r (tree_of_version t number)) →
      slot_in counted i t ≡ slot_in counted i s
  -- a free slot with n free ones before it takes the new record with n before it, in 01's order; others stay free
  pub fills : (i : ℕ) → i < length (store_of s).slots → get_or (store_of s).slots i free ≡ free →
      slot_in counted i t ≡ slot_bytes counted (get_or (map used (new_records leaf_hash inner_hash number
      (tree_of_version t number))) (free_slots (take i (store_of s).slots)) free)
