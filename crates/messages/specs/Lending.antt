-- Document 02, request 2026-02: what a caller lends beside a record, and what the two calls answer. Writing tests 10,
-- 15, 9, reading 10, 9. Assumes nothing.
use Rattle.std.specs.Prelude.{ℕ, Bool, true, false, cond, [], ◌∷◌, length, eqb, ltb}
use Rattle.std.proofs.Math.Option.{Option, none, some}
use Rattle.terms.specs.Bits.{Bytes, Byte, All, same_bytes}
use Rattle.terms.specs.Fields.{all_of}
use Rattle.terms.specs.Records.{Presence, Proof, presence, absence}
use Rattle.proofrecords.specs.ProofBytes.{proof_bytes}
use Rattle.meaning.specs.Calls.{Answer, refused, accepted}
use Rattle.messages.specs.Message.{message_bytes, own_proof}
use Rattle.messages.specs.Raws.{most_key, most_value}
use Rattle.messages.specs.Reading.{length_right, message_in}

-- Raw key and value of a leaf; both without bytes where no leaf is lent.
pub record Leaf : Type 0 where
  pub key : Bytes
  pub value : Bytes

-- The raw key asked for, and the leaves shown: the first is the leaf shown, or the left of two; the second the right of
-- two.
pub record Lent : Type 0 where
  pub asked : Bytes
  pub first : Leaf
  pub second : Leaf

-- The leaf lent for a right neighbour, by the left one.
abbrev pub right_leaf : Lent → Option Presence → Leaf
right_leaf lent none = lent.first
right_leaf lent (some l) = lent.second

-- A proof with the raw keys and values lent in place of their hashes.
abbrev pub raw_presence : Leaf → Presence → Presence
raw_presence leaf p = record { key = leaf.key; value = leaf.value; steps = p.steps }

abbrev pub raw_neighbour : Leaf → Option Presence → Option Presence
raw_neighbour leaf none = none
raw_neighbour leaf (some p) = some (raw_presence leaf p)

abbrev pub raw_proof : Lent → Proof → Proof
raw_proof lent (presence p) = presence (raw_presence lent.first p)
raw_proof lent (absence a) =
    absence (record {
      key = lent.asked;
      leftward = raw_neighbour lent.first a.leftward;
      rightward = raw_neighbour (right_leaf lent a.leftward) a.rightward;
    })

-- No leaf is lent.
unfoldable pub unlent : Leaf → Bool
unlent leaf = all_of (eqb (length leaf.key) 0 ∷ eqb (length leaf.value) 0 ∷ [])

module _ (sha : Bytes → Bytes) where
  -- A raw key or value of right length that hashes to what the proof holds.
  unfoldable pub hashes_to : ℕ → Bytes → Bytes → Bool
  hashes_to most x h = all_of (length_right most x ∷ same_bytes (sha x) h ∷ [])

  unfoldable pub leaf_fits : Leaf → Presence → Bool
  leaf_fits leaf p = all_of (hashes_to most_key leaf.key p.key ∷ hashes_to most_value leaf.value p.value ∷ [])

  -- The leaves lent are those shown, and no other is.
  abbrev pub leaves_fit : Lent → Option Presence → Option Presence → Bool
  leaves_fit lent none none = false
  leaves_fit lent (some l) none = all_of (leaf_fits lent.first l ∷ unlent lent.second ∷ [])
  leaves_fit lent none (some r) = all_of (leaf_fits lent.first r ∷ unlent lent.second ∷ [])
  leaves_fit lent (some l) (some r) = all_of (leaf_fits lent.first l ∷ leaf_fits lent.second r ∷ [])

  -- 15 else.
  abbrev pub lent_fits : Lent → Proof → Bool
  lent_fits lent (presence p) = all_of (hashes_to most_key lent.asked p.key ∷ leaves_fit lent (some p) none ∷ [])
  lent_fits lent (absence a) =
      all_of (hashes_to most_key lent.asked a.key ∷ leaves_fit lent a.leftward a.rightward ∷ [])

  -- 9 if it doesn't fit the room.
  unfoldable pub fitted : {A : Type 0} → ℕ → Bytes → A → Answer A
  fitted room x a = cond (ltb room (length x)) (refused 9) (accepted a)

  -- The message of the proof that a record is.
  unfoldable pub written_from : Option Proof → Lent → ℕ → Answer Bytes
  written_from none lent room = refused 10
  written_from (some p) lent room =
      let m = message_bytes (raw_proof lent p) in
      cond (lent_fits lent p) (fitted room m m) (refused 15)

  -- Our own record of what a message says; what it says is the answer.
  abbrev pub record_of : Proof → Bytes
  record_of q = proof_bytes (own_proof sha q)

  unfoldable pub read_from : Option Proof → ℕ → Answer Proof
  read_from none room = refused 10
  read_from (some q) room = fitted room (record_of q) q

  unfoldable pub read : Bytes → ℕ → Answer Proof
  read m room = read_from (message_in m) room

-- What is lent is bytes.
pub record LentBytes (lent : Lent) : Type 0 where
  pub asked_bytes : All Byte lent.asked
  pub first_key : All Byte lent.first.key
  pub first_value : All Byte lent.first.value
  pub second_key : All Byte lent.second.key
  pub second_value : All Byte lent.second.value

-- The raw key asked for and the raw leaves that a message holds.
abbrev pub no_leaf : Leaf
no_leaf = record { key = []; value = [] }

abbrev pub leaf_of : Presence → Leaf
leaf_of p = record { key = p.key; value = p.value }

abbrev pub leaves_of : Bytes → Option Presence → Option Presence → Lent
leaves_of asked none none = record { asked = asked; first = no_leaf; second = no_leaf }
leaves_of asked (some l) none = record { asked = asked; first = leaf_of l; second = no_leaf }
leaves_of asked none (some r) = record { asked = asked; first = leaf_of r; second = no_leaf }
leaves_of asked (some l) (some r) = record { asked = asked; first = leaf_of l; second = leaf_of r }

abbrev pub lent_in : Proof → Lent
lent_in (presence p) = leaves_of p.key (some p) none
lent_in (absence a) = leaves_of a.key a.leftward a.rightward
