-- The parents of a record of a store, as the code asks them: what the helpers of the check promise each other. No
-- public promise reaches this file. Assumes nothing.
use Rattle.std.specs.Prelude.{ℕ, ◌≤◌, ◌≡◌, Bool, true, ◌&&◌, eqb, leb, Option}
use Rattle.terms.specs.declared.Form.{Form}
use Rattle.terms.specs.Bits.{Bytes, longer, same_bytes}
use Rattle.terms.specs.Records.{Record, Store}
use Rattle.meaning.specs.Reading.{body_hash}
use Rattle.meaning.specs.Local.{ends_before}
use Rattle.local.specs.Test.{every, total, by_record, link_test, life_above}
use Rattle.hash.specs.Hash.{hash_bytes}
use Rattle.nodehash.specs.Node.{leaf_hash, inner_hash}
use Rattle.place.specs.Place.{place_of}
use Rattle.layout.specs.Slots.{count_in, bits_in, kid_on}
use Rattle.layout.specs.Stores.{store_in, slot_no}
use Rattle.check_kin.specs.Kin.{is_leaf_body}
use Rattle.check_link.specs.Link.{SaidOf}
use Rattle.check_link.specs.declared.Below as declared-below

-- A record of the store that stands below the root, as its parents are asked about it.
pub record Is (st : Store) (b : declared-below.Below) (r : Record) : Type 0 where
  pub place : r.place ≡ longer b.right (place_of b.up)
  pub version : r.version ≡ b.version
  pub some : 1 ≤ b.version
  pub ends : ends_before st r ≡ b.ends
  pub kind : is_leaf_body r.body ≡ b.leaf
  pub hash : body_hash leaf_hash inner_hash r.body ≡ hash_bytes b.hash

-- The fields of a slot are those of an inner record that names it.
unfoldable pub could_name : declared-below.Below → Bytes → Bool
could_name b x =
    eqb (count_in x) b.up.count && (eqb (kid_on b.right x).version b.version &&
    same_bytes (bits_in x) b.up.bits)

-- What slot j says of each record that is the one below.
abbrev pub SlotSays : Form → Bytes → ℕ → declared-below.Below → Option ℕ → Type 0
SlotSays fm s j b t =
    (r : Record) → Is (store_in fm s) b r →
    SaidOf (by_record true (link_test leaf_hash inner_hash (store_in fm s) r) (slot_no fm j s))
    (by_record 0 (life_above (store_in fm s) r) (slot_no fm j s)) t

-- All that its parents say of it is right, and their kept lives add up to a life.
abbrev pub ParentsSay : Form → Bytes → declared-below.Below → ℕ → Bool → Type 0
ParentsSay fm s b life t =
    (r : Record) → Is (store_in fm s) b r →
    t
    ≡ (every (by_record true (link_test leaf_hash inner_hash (store_in fm s) r)) (store_in fm s).slots
    && leb life (total (by_record 0 (life_above (store_in fm s) r)) (store_in fm s).slots))
