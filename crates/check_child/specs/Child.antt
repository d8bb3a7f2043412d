-- What is known of a parent and a child of it once the child was looked at. Assumes nothing.
use Rattle.std.specs.Prelude.{ℕ, ◌<◌, ◌≤◌, ◌≡◌, false, not, cond, List, length, eqb}
use Rattle.terms.specs.declared.Form.{Form}
use Rattle.terms.specs.Bits.{Bytes, Place}
use Rattle.terms.specs.Records.{Child, inner_body, count_on, Record, Store}
use Rattle.meaning.specs.Store.{child_on}
use Rattle.meaning.specs.Sound.{At}
use Rattle.meaning.specs.Local.{ends_before}
use Rattle.local.specs.Test.{first_kept, kept_life}
use Rattle.hash.specs.Hash.{hash_bytes}
use Rattle.nodehash.specs.Node.{leaf_hash, inner_hash}
use Rattle.place.specs.Place.{place_of, Proper}
use Rattle.layout.specs.Sizes.{room_of}
use Rattle.layout.specs.Stores.{store_in}
use Rattle.check_kin.specs.declared.Kept as declared-kept
use Rattle.check_kin.specs.Kin.{Keeps, is_leaf_body}
use Rattle.check_pass.specs.Passes.{Each}
use Rattle.check_seen.specs.Seen.{OwnAt, Tied}
use Rattle.check_seen.specs.Sums.{SideAdded}
use Rattle.check_child.specs.declared.Parent as declared
use Rattle.check_child.specs.declared.Link as declared-link

-- The passes before this one found nothing wrong.
pub record Ready (fm : Form) (s : Bytes) (k : declared-kept.Kept) : Type 0 where
  pub keeps : Keeps fm s k
  pub own : Each (OwnAt (store_in fm s)) (room_of fm (length s))

-- A parent that can have children, with a life that is no longer than there are versions.
pub record Fit (p : declared.Parent) : Type 0 where
  pub proper : Proper p.up
  pub short : p.up.count < 256
  pub life : p.life ≤ 4294967296

-- A record as a parent: its place, its first kept version, the end of its life, and how many kept versions it lives at.
pub record IsParent (st : Store) (p : declared.Parent) (q : Record) : Type 0 where
  pub place : q.place ≡ place_of p.up
  pub first : first_kept st q ≡ p.first
  pub ends : ends_before st q ≡ p.ends
  pub life : kept_life st q ≡ p.life

-- The child that it names on a side: its version and stored hash, the version of the other child, and the leaves there.
pub record IsLink (d : declared-link.Link) (q : Record) : Type 0 where
  pub l : Child
  pub m : Child
  pub body : q.body ≡ inner_body l m
  pub version : (child_on d.right l m).version ≡ d.version
  pub hash : (child_on d.right l m).hash ≡ hash_bytes d.hash
  pub other : (child_on (not d.right) l m).version ≡ d.other
  pub count : count_on d.right q.counts ≡ d.count

-- Slot c holds a record that is the node of a version at a place.
pub record Node (fm : Form) (s : Bytes) (c v : ℕ) (p : Place) : Type 0 where
  pub it : Record
  pub here : At (store_in fm s) c it
  pub version : it.version ≡ v
  pub place : it.place ≡ p

-- The record in slot c lives to an end at least, and beside a child of this version it is no lone leaf.
abbrev pub Outlives : Form → Bytes → ℕ → ℕ → ℕ → Type 0
Outlives fm s c ends other =
    (r : Record) → At (store_in fm s) c r → (ends ≤ ends_before (store_in fm s) r) ×
    (cond (is_leaf_body r.body) (eqb other 0) false ≡ false)

-- Of each record that is this parent with this child: it is tied to the child, and no more than its life was added.
abbrev pub SideTied : Form → Bytes → declared.Parent → declared-link.Link → List ℕ → List ℕ → Type 0
SideTied fm s p d xs ys =
    (q : Record) → IsParent (store_in fm s) p q → IsLink d q →
    Tied leaf_hash inner_hash (store_in fm s) q d.right × SideAdded (store_in fm s) d.right q xs ys
