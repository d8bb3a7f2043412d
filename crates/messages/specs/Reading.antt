-- Document 02, request 2026-02, the reader: what a message says, read from its front; none (10) where it isn't in the
-- one encoding. `message_exactly` of proofs/Back says that it takes exactly the bytes of `Message`. Assumes nothing.
use Rattle.std.specs.Prelude.{ℕ, zero, suc, ◌+◌, ◌*◌, ◌-◌, Bool, true, false, cond, ◌&&◌, List, [], ◌∷◌, ◌++◌, length, get_or, take, drop, ltb, leb, eqb}
use Rattle.std.proofs.Math.Option.{Option, none, some}
use Rattle.terms.specs.Bits.{Bytes, same_bytes}
use Rattle.terms.specs.Fields.{all_of}
use Rattle.terms.specs.Records.{Step, Presence, Absence, Proof, presence, absence}
use Rattle.proofrecords.specs.ProofBytes.{most_steps}
use Rattle.messages.specs.Raws.{leaf_op, most_key, most_value}

-- Goes on with what was read, and only if a test passes.
unfoldable pub onward : {A B : Type 0} → Option A → (A → Option B) → Option B
onward none f = none
onward (some a) f = f a

unfoldable pub only_if : {A : Type 0} → Bool → Option A → Option A
only_if test o = cond test o none

-- What is read from the front of bytes, and the bytes after it.
abbrev pub Front : Type 0 → Type 0
Front A = Option (A × Bytes)

-- A varint that follows isn't 0: with it the varint would not be the shortest.
unfoldable pub not_zero : ℕ → Bool
not_zero x = leb 1 x

-- Seven bits more below a varint that follows.
abbrev pub below : ℕ → ℕ × Bytes → Front ℕ
below b f = only_if (not_zero f.0) (some (b + 128 * f.0, f.1))

abbrev pub varint_from : ℕ → Bytes → Front ℕ
varint_from n [] = none
varint_from zero (b ∷ m) = only_if (ltb b 128) (some (b, m))
varint_from (suc n) (b ∷ m) = cond (ltb b 128) (some (b, m)) (onward (varint_from n m) (below (b - 128)))

-- The first bytes, as many as a varint says.
abbrev pub cut_from : ℕ × Bytes → Front Bytes
cut_from f = only_if (leb f.0 (length f.1)) (some (take f.0 f.1, drop f.0 f.1))

-- Field n of bytes or of a message; no length takes more than three bytes.
abbrev pub field_from : ℕ → Bytes → Front Bytes
field_from n [] = none
field_from n (b ∷ m) = only_if (eqb b (8 * n + 2)) (onward (varint_from 2 m) cut_from)

-- An inner op is its head and the sibling: hash, prefix byte 0 and the suffix's beginning, or hash and the prefix's
-- beginning.
abbrev pub left_head : Bytes
left_head = 8 ∷ 1 ∷ 18 ∷ 1 ∷ 0 ∷ 26 ∷ 32 ∷ []

abbrev pub right_head : Bytes
right_head = 8 ∷ 1 ∷ 18 ∷ 33 ∷ 0 ∷ []

abbrev pub headed : Bytes → Bytes → Bool
headed head x = eqb (length x) (length head + 32) && same_bytes (take (length head) x) head

unfoldable pub step_in : Bytes → Option Step
step_in x =
    cond (headed left_head x)
    (some (record { side = false; sibling = drop 7 x }))
    (only_if (headed right_head x) (some (record { side = true; sibling = drop 5 x })))

-- At most n steps, to the end.
abbrev pub path_in : ℕ → Bytes → Option (List Step)
path_in zero m = only_if (eqb (length m) 0) (some [])
path_in (suc n) m =
    cond (eqb (length m) 0) (some [])
    (onward (field_from 4 m) λ x.
    onward (step_in x.0) λ s.
    onward (path_in n x.1) λ steps.
    some (s ∷ steps))

-- 1 to `most` bytes.
unfoldable pub length_right : ℕ → Bytes → Bool
length_right most x = leb 1 (length x) && leb (length x) most

-- Key, value, leaf, path.
unfoldable pub existence_in : Bytes → Option Presence
existence_in m =
    onward (field_from 1 m) λ k.
    onward (field_from 2 k.1) λ x.
    onward (field_from 3 x.1) λ l.
    only_if (all_of (length_right most_key k.0 ∷ length_right most_value x.0 ∷ same_bytes l.0 leaf_op ∷ []))
    (onward (path_in most_steps l.1) λ steps. some (record { key = k.0; value = x.0; steps = steps }))

-- A neighbour, where the next field is its.
unfoldable pub neighbour_from : ℕ → Bytes → Front (Option Presence)
neighbour_from n m =
    cond (eqb (get_or m 0 0) (8 * n + 2))
    (onward (field_from n m) λ x. onward (existence_in x.0) λ p. some (some p, x.1))
    (some (none, m))

-- Key, left, right, to the end; at least one neighbour.
abbrev pub somebody : Option Presence → Option Presence → Bool
somebody none none = false
somebody none (some r) = true
somebody (some l) r = true

unfoldable pub nonexistence_in : Bytes → Option Absence
nonexistence_in m =
    onward (field_from 1 m) λ k.
    onward (neighbour_from 2 k.1) λ l.
    onward (neighbour_from 3 l.1) λ r.
    only_if (all_of (length_right most_key k.0 ∷ somebody l.0 r.0 ∷ eqb (length r.1) 0 ∷ []))
    (some (record { key = k.0; leftward = l.0; rightward = r.0 }))

-- Field n alone, no byte over.
unfoldable pub field_alone : ℕ → Bytes → Option Bytes
field_alone n m = onward (field_from n m) λ x. only_if (eqb (length x.1) 0) (some x.0)

-- exist or nonexist.
unfoldable pub message_in : Bytes → Option Proof
message_in m =
    cond (eqb (get_or m 0 0) 10)
    (onward (field_alone 1 m) λ x. onward (existence_in x) λ p. some (presence p))
    (onward (field_alone 2 m) λ x. onward (nonexistence_in x) λ a. some (absence a))
