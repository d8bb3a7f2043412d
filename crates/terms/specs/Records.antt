-- Document 01, 'Bytes': what grants, batches, slots, stores and proofs say, apart from their bytes. Assumes nothing.
use Rattle.std.specs.Prelude.{ℕ, true, false, List, replicate}
use Rattle.std.proofs.Math.Option.{Option}
use Rattle.terms.specs.Bits.{Bytes, Side, Place}
-- The form of a store: the plain one of document 01, whose records hold no counts, or the counted one of 2026-09.
pub use Rattle.terms.specs.declared.Form.{Form}
pub use Rattle.terms.specs.declared.Form.TheVariants.{Plain as plain, Counted as counted}

-- A grant is a key with its value.
pub record Grant : Type 0 where
  pub key : Bytes
  pub value : Bytes

abbrev pub grant : Bytes → Bytes → Grant
grant k x = record { key = k; value = x }

-- What one record of a batch asks for.
pub data Ask : Type 0 where
  insert : Bytes → Bytes → Ask
  delete : Bytes → Ask

abbrev pub ask_key : Ask → Bytes
ask_key (insert k x) = k
ask_key (delete k) = k

-- 32 zero bytes: the hash of a missing child, and the root of no grants.
unfoldable pub zeros : Bytes
zeros = replicate 32 0

-- What an inner record says of a child; version 0: there is no child.
pub record Child : Type 0 where
  pub version : ℕ
  pub hash : Bytes

abbrev pub child : ℕ → Bytes → Child
child v h = record { version = v; hash = h }

-- What a record holds beside its node (version, place): a leaf its key and value, an inner node its children.
pub data Body : Type 0 where
  leaf_body : Bytes → Bytes → Body
  inner_body : Child → Child → Body

-- The numbers of leaves below a left and a right child (2026-09): no hash covers them, and no tree is read by them.
pub record Tally : Type 0 where
  pub leftward : ℕ
  pub rightward : ℕ

abbrev pub tally : ℕ → ℕ → Tally
tally l r = record { leftward = l; rightward = r }

-- A leaf's, and those of the plain form.
abbrev pub no_tally : Tally
no_tally = tally 0 0

-- The count on a side.
abbrev pub count_on : Side → Tally → ℕ
count_on false c = c.leftward
count_on true c = c.rightward

-- A record; retired since 0 means that it is not retired.
pub record Record : Type 0 where
  pub place : Place
  pub version : ℕ
  pub retired : ℕ
  pub body : Body
  pub counts : Tally

abbrev pub record_of : Place → ℕ → ℕ → Body → Tally → Record
record_of p v n b c = record { place = p; version = v; retired = n; body = b; counts = c }

-- A slot is free, or a record in form, or neither: then its bytes are all that can be said of it.
pub data Slot : Type 0 where
  free : Slot
  used : Record → Slot
  spoiled : Bytes → Slot

-- A store: what its header says, and its slots, as many as its capacity. The header's kind tells the form.
pub record Store : Type 0 where
  pub form : Form
  pub oldest : ℕ
  pub latest : ℕ
  pub slots : List Slot

abbrev pub store_from : Form → ℕ → ℕ → List Slot → Store
store_from f old new s = record { form = f; oldest = old; latest = new; slots = s }

-- A step of a proof: on which side the node stands, and its sibling's hash.
pub record Step : Type 0 where
  pub side : Side
  pub sibling : Bytes

-- A presence proof; the steps go from the leaf upwards.
pub record Presence : Type 0 where
  pub key : Bytes
  pub value : Bytes
  pub steps : List Step

-- An absence proof: the key, and the presence proofs of its neighbours.
pub record Absence : Type 0 where
  pub key : Bytes
  pub leftward : Option Presence
  pub rightward : Option Presence

pub data Proof : Type 0 where
  presence : Presence → Proof
  absence : Absence → Proof
