-- Document 02, 2026-02: the CommitmentProof of ICS 23's published proto file (cosmos.ics23.v1), fields in number order.
-- What a message says is a proof of ours in which keys and values are raw. Assumes nothing.
use Rattle.std.specs.Prelude.{ℕ, cond, List, [], ◌∷◌, map}
use Rattle.std.proofs.Math.Option
use Rattle.std.proofs.Math.Option.{Option, none, some}
use Rattle.terms.specs.Bits.{Bytes}
use Rattle.terms.specs.Fields.{flat}
use Rattle.terms.specs.Records.{Step, Presence, Absence, Proof, presence, absence}
use Rattle.messages.specs.Wire.{number_field, bytes_field, message_field}

-- ICS 23's LeafOp, InnerOp and ExistenceProof. Of operation codes, HashOp SHA256 is 1 and LengthOp NO_PREFIX 0.
pub record LeafOp : Type 0 where
  pub hash : ℕ
  pub prehash_key : ℕ
  pub prehash_value : ℕ
  pub length_op : ℕ
  pub prefix : Bytes

pub record InnerOp : Type 0 where
  pub hash : ℕ
  pub prefix : Bytes
  pub suffix : Bytes

pub record Existence : Type 0 where
  pub key : Bytes
  pub value : Bytes
  pub leaf : LeafOp
  pub path : List InnerOp

-- Their bytes: the fields are numbered as they stand above; each op of the path is a field 4.
unfoldable pub leaf_bytes : LeafOp → Bytes
leaf_bytes op =
    flat (number_field 1 op.hash ∷ number_field 2 op.prehash_key ∷ number_field 3 op.prehash_value
    ∷ number_field 4 op.length_op ∷ bytes_field 5 op.prefix ∷ [])

unfoldable pub inner_bytes : InnerOp → Bytes
inner_bytes op = flat (number_field 1 op.hash ∷ bytes_field 2 op.prefix ∷ bytes_field 3 op.suffix ∷ [])

unfoldable pub existence_bytes : Existence → Bytes
existence_bytes e =
    flat (bytes_field 1 e.key ∷ bytes_field 2 e.value ∷ message_field 3 (leaf_bytes e.leaf)
    ∷ map (λ op. message_field 4 (inner_bytes op)) e.path)

-- Keys and values are hashed before use, no length prefix, leaf prefix byte 1.
abbrev pub our_leaf : LeafOp
our_leaf = record { hash = 1; prehash_key = 1; prehash_value = 1; length_op = 0; prefix = 1 ∷ [] }

-- Inner prefix byte 0, and the sibling on its side of the node's hash.
abbrev pub op_of : Step → InnerOp
op_of s = record { hash = 1; prefix = 0 ∷ cond s.side s.sibling []; suffix = cond s.side [] s.sibling }

-- A leaf shown, with its path from the leaf upwards.
abbrev pub existence_of : Presence → Existence
existence_of p = record { key = p.key; value = p.value; leaf = our_leaf; path = map op_of p.steps }

abbrev pub existence : Presence → Bytes
existence p = existence_bytes (existence_of p)

-- NonExistenceProof: key 1, left 2, right 3.
abbrev pub neighbour_field : ℕ → Option Presence → Bytes
neighbour_field n none = []
neighbour_field n (some p) = message_field n (existence p)

unfoldable pub nonexistence : Absence → Bytes
nonexistence a = flat (bytes_field 1 a.key ∷ neighbour_field 2 a.leftward ∷ neighbour_field 3 a.rightward ∷ [])

-- CommitmentProof: exist 1 or nonexist 2.
abbrev pub message_bytes : Proof → Bytes
message_bytes (presence p) = message_field 1 (existence p)
message_bytes (absence a) = message_field 2 (nonexistence a)

abbrev pub most_bytes : Proof → ℕ
most_bytes (presence p) = 14868
most_bytes (absence a) = 29999

-- Our own record of what a message says: keys and values hashed.
module _ (sha : Bytes → Bytes) where
  abbrev pub own_presence : Presence → Presence
  own_presence p = record { key = sha p.key; value = sha p.value; steps = p.steps }

  abbrev pub own_proof : Proof → Proof
  own_proof (presence p) = presence (own_presence p)
  own_proof (absence a) = let own = Option.map own_presence in
      absence (record { key = sha a.key; leftward = own a.leftward; rightward = own a.rightward })
