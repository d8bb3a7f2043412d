-- Document 02, 2026-12: the messages of nodes and of a check; their hash is SHA-256 in the calls. Assumes nothing.
use Rattle.std.specs.Prelude.{ℕ, Bool, cond, ◌&&◌, not, List, [], ◌∷◌, ◌++◌, leb}
use Rattle.std.proofs.Math.Option as option
use Rattle.terms.specs.Bits.{Bytes}
use Rattle.terms.specs.Records.{
  Body,
  leaf_body,
  inner_body,
  Record,
  Slot,
  free,
  used,
  spoiled,
  Step,
  Presence,
  Proof,
  presence,
  absence,
}
use Rattle.meaning.specs.Tree.{Tree, none, leaf, inner, hash}
use Rattle.meaning.specs.Store.{retired_by}

-- The message of a leaf: byte 1, key, value; of an inner node: byte 0, left hash, right hash.
abbrev pub leaf_message : Bytes → Bytes → Bytes
leaf_message k x = 1 ∷ (k ++ x)

abbrev pub inner_message : Bytes → Bytes → Bytes
inner_message l r = 0 ∷ (l ++ r)

abbrev pub message_of : Body → Bytes
message_of (leaf_body k x) = leaf_message k x
message_of (inner_body l r) = inner_message l.hash r.hash

-- A record is in v's tree if its version is at most v and it isn't retired by v.
unfoldable pub stands_in : ℕ → Record → Bool
stands_in v r = leb r.version v && not (retired_by v r)

-- The message of a slot's record, if it is in v's tree.
abbrev pub slot_messages : ℕ → Slot → List Bytes
slot_messages v free = []
slot_messages v (used r) = cond (stands_in v r) (message_of r.body ∷ []) []
slot_messages v (spoiled x) = []

-- The messages of a version's nodes, in the order of their slots.
abbrev pub node_messages : ℕ → List Slot → List Bytes
node_messages v [] = []
node_messages v (x ∷ s) = slot_messages v x ++ node_messages v s

module _ (H : Bytes → Bytes) where
  abbrev pub leaf_hash : Bytes → Bytes → Bytes
  leaf_hash k x = H (leaf_message k x)

  abbrev pub inner_hash : Bytes → Bytes → Bytes
  inner_hash l r = H (inner_message l r)

  abbrev pub tree_messages : Tree → List Bytes
  tree_messages none = []
  tree_messages (leaf g) = leaf_message g.key g.value ∷ []
  tree_messages (inner l r) =
      inner_message (hash leaf_hash inner_hash l) (hash leaf_hash inner_hash r) ∷ (tree_messages l ++ tree_messages r)

  abbrev pub parent_message : Bytes → Step → Bytes
  parent_message h s = cond s.side (inner_message s.sibling h) (inner_message h s.sibling)

  -- The messages hashed on the way up from a message.
  abbrev pub upwards : Bytes → List Step → List Bytes
  upwards m [] = m ∷ []
  upwards m (s ∷ steps) = m ∷ upwards (parent_message (H m) s) steps

  unfoldable pub path_messages : Presence → List Bytes
  path_messages p = upwards (leaf_message p.key p.value) p.steps

  abbrev pub neighbour_messages : option.Option Presence → List Bytes
  neighbour_messages option.none = []
  neighbour_messages (option.some p) = path_messages p

  -- The messages hashed while checking a proof.
  abbrev pub checked_messages : Proof → List Bytes
  checked_messages (presence p) = path_messages p
  checked_messages (absence a) = neighbour_messages a.leftward ++ neighbour_messages a.rightward
