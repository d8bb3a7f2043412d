-- A presence proof where it lies in bytes, by itself or inside an absence proof: the message of its leaf and of each
-- step, where its steps lead, and what is entered of it. Assumes nothing.
use Rattle.std.specs.Prelude.{ℕ, ◌+◌, ◌*◌, ◌-◌, ◌<◌, ◌≡◌, Bool, drop, Some, None}
use Rattle.std.specs.declared.option.Option as option
use Rattle.terms.specs.Bits.{Bytes}
use Rattle.terms.specs.Fields.{slice}
use Rattle.meaning.specs.Checking.{parent_hash, climb}
use Rattle.hash.specs.declared.Hash.{Hash}
use Rattle.hash.specs.Hash.{hash_bytes}
use Rattle.sha256.specs.Sha256.{sha256}
use Rattle.nodehash.specs.Node.{leaf_hash, inner_hash}
use Rattle.nodehash.specs.Words.{message}
use Rattle.proofrecords.specs.ProofBytes.{step_count, steps_in}
use Rattle.proofrecords.specs.Steps.{Room, step_at}
use Rattle.verify_path.specs.Paths.{top_after}
use Rattle.verify_neighbours.specs.Neighbours.{leads}
use Rattle.nodehash_eight.specs.declared.Message.{Message}

-- The bytes from the record's first byte a on.
abbrev pub from : Bytes → ℕ → Bytes
from p a = drop a p

-- A presence proof has room at a: its head, and as many steps as that says.
abbrev pub Lies : Bytes → ℕ → Type 0
Lies p a = Room (step_count (from p a)) (from p a)

-- The hash of a message.
abbrev pub digest_of : Message → Bytes
digest_of m = sha256 (message m.kind m.left m.right)

-- The hash of a record's leaf, and of the parent that step i of a record leads to from hash h, where the record has
-- step i.
abbrev pub LeafHash : Bytes → Bytes → Type 0
LeafHash x hash = hash ≡ leaf_hash (slice 8 32 x) (slice 40 32 x)

abbrev pub StepHash : Bytes → ℕ → Hash → Bytes → Type 0
StepHash x i h hash = i < step_count x → hash ≡ parent_hash leaf_hash inner_hash (hash_bytes h) (step_at i x)

-- The messages of both.
pub record LeafOf (x : Bytes) (m : Message) : Type 0 where
  pub small : m.kind < 256
  pub digest : LeafHash x (digest_of m)

pub record StepOf (x : Bytes) (i : ℕ) (h : Hash) (m : Message) : Type 0 where
  pub small : m.kind < 256
  pub digest : StepHash x i h (digest_of m)

-- The hash at the top of all steps of a record.
abbrev pub top_of : Bytes → Bytes
top_of x = top_after (step_count x) x

-- From hash h the steps from step i on lead to the top; there are none where all are done.
unfoldable pub Under : Bytes → ℕ → Hash → Type 0
Under x i h = climb leaf_hash inner_hash (hash_bytes h) (steps_in (step_count x - i) (drop (72 + 33 * i) x)) ≡ top_of x

-- What is entered for a record: whether it leads to the root, or nothing.
abbrev pub EntryOf : Bytes → Bytes → option.Option Bool → Type 0
EntryOf root x (Some b) = b ≡ leads root x
EntryOf root x None = Unit {0}
