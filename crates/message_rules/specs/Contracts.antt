-- Document 02, 2026-02: what writing and reading a message answer to any bytes, and what they leave. Assumes nothing.
use Rattle.std.specs.Prelude.{ℕ, ◌≡◌, cond, List, [], ◌∷◌, ◌++◌, map, length, ltb}
use Rattle.std.proofs.Math.Option.{Option, none, some}
use Rattle.terms.specs.Bits.{Bytes, All}
use Rattle.terms.specs.Fields.{le, flat}
use Rattle.terms.specs.Records.{Proof, presence, absence}
use Rattle.meaning.specs.Calls.{Answer, refused, accepted}
use Rattle.meaning.specs.Answers.{room_after, Exported}
use Rattle.sha256.specs.Sha256.{sha256}
use Rattle.proofrecords.specs.ProofBytes.{proof_bytes, ProofIs, Which}
use Rattle.messages.specs.Message.{message_bytes, own_proof}
use Rattle.messages.specs.Parts.{Raw, asked_in, leaves_in, two_leaves}

-- x is our own record, and m the message, of a proof with raw keys and values.
pub record Encodes (x m : Bytes) (q : Proof) : Type 0 where
  pub own : ProofIs x (own_proof sha256 q)
  pub raw : All (λ p. Raw p.most p.bytes) (asked_in q ∷ leaves_in q)
  pub is : message_bytes q ≡ m

-- Our own record of what such a proof says.
abbrev pub record_of : Proof → Bytes
record_of q = proof_bytes (own_proof sha256 q)

-- The raw key asked for is an absence's own; a presence has its leaf's, and the two need only hash alike.
abbrev pub AskedFor : Bytes → Proof → Type 0
AskedFor asked (presence p) = Raw 256 asked × (sha256 asked ≡ sha256 p.key)
AskedFor asked (absence a) = asked ≡ a.key

-- What is lent beside x makes the message of q: the raw key asked for, raw key and value of the leaf or of both leaves.
pub record Lends (x asked : Bytes) (leaves : List Bytes) (q : Proof) : Type 0 where
  pub encodes : Encodes x (message_bytes q) q
  pub asked_for : AskedFor asked q
  pub leaves_are : leaves ≡ map (λ p. p.bytes) (two_leaves q)

-- 9 where the bytes of a proof don't fit the room.
abbrev pub fitted : (Proof → Bytes) → Proof → Bytes → Answer Proof
fitted bytes q room = cond (ltb (length room) (length (bytes q))) (refused 9) (accepted q)

-- Writing tests 10, 15, 9, reading 10, 9.
abbrev pub written : Option Proof → Option Proof → Bytes → Answer Proof
written none raw room = refused 10
written (some p) none room = refused 15
written (some p) (some q) room = fitted message_bytes q room

abbrev pub read : Option Proof → Bytes → Answer Proof
read none room = refused 10
read (some q) room = fitted record_of q room

-- Writing the message of the record x answers r; the room is left as t, the array f for the message's length as g.
pub record WritesMessage (x asked : Bytes) (leaves : List Bytes) (room f : Bytes) (r : ℕ) (t g : Bytes) : Type 0 where
  pub said : Option Proof
  pub exactly : Which (ProofIs x) said
  pub raw : Option Proof
  pub lent : Which (Lends x asked leaves) raw
  pub exported : Exported (written said raw room) (λ q. le 4 (length (message_bytes q))) f r g
  pub message : t ≡ room_after message_bytes (written said raw room) room

-- The record's length, then offset and length of the raw key asked for and of each leaf's key and value: 4 bytes each.
abbrev pub answer_bytes : Proof → Bytes
answer_bytes q =
    le 4 (length (record_of q)) ++ flat (map (λ p. le 4 p.at ++ le 4 (length p.bytes)) (asked_in q ∷ two_leaves q))

-- Reading the bytes m as a message answers r; the room is left as t, the array f for lengths and places as g.
pub record ReadsMessage (m room f : Bytes) (r : ℕ) (t g : Bytes) : Type 0 where
  pub said : Option Proof
  pub exactly : Which (λ q. Encodes (record_of q) m q) said
  pub exported : Exported (read said room) answer_bytes f r g
  pub record_is : t ≡ room_after record_of (read said room) room
