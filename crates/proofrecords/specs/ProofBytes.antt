-- Document 01, 'Bytes': presence and absence proofs; with 2026-03, by which flags 0 is off form. Assumes nothing.
use Rattle.std.specs.Prelude.{ℕ, zero, suc, ◌+◌, ◌*◌, ◌≤◌, ◌≡◌, Bool, true, cond, ◌&&◌, List, [], ◌∷◌, ◌++◌, length, get_or, drop, eqb, leb}
use Rattle.std.proofs.Math.Option.{Option, none, some}
use Rattle.terms.specs.Bits.{Bytes, Whole32, All, digit}
use Rattle.terms.specs.Fields.{le, slice, field, flat, all_of}
use Rattle.terms.specs.Records.{Step, Presence, Absence, Proof, presence, absence}

-- A step is a side and the sibling's hash.
abbrev pub steps_bytes : List Step → Bytes
steps_bytes [] = []
steps_bytes (s ∷ steps) = (digit s.side ∷ s.sibling) ++ steps_bytes steps

-- Presence proof: length 72 + 33 s, kind 16, step count s, key, value, s steps from the leaf upwards.
unfoldable pub presence_bytes : Presence → Bytes
presence_bytes p =
    flat
    (le 4 (72 + 33 * length p.steps) ∷ le 2 16 ∷ le 2 (length p.steps) ∷ p.key ∷ p.value
    ∷ steps_bytes p.steps ∷ [])

abbrev pub neighbour_bytes : Option Presence → Bytes
neighbour_bytes none = []
neighbour_bytes (some p) = presence_bytes p

-- Flags: 1 left neighbour, 2 right, 3 both; 0, neither, is off form.
abbrev pub flags_of : Option Presence → Option Presence → ℕ
flags_of none none = 0
flags_of (some l) none = 1
flags_of none (some r) = 2
flags_of (some l) (some r) = 3

-- Absence proof: its length, kind 17, flags, key, then the presence proofs of the neighbours, left first.
unfoldable pub absence_bytes : Absence → Bytes
absence_bytes a =
    let l = neighbour_bytes a.leftward in
    let r = neighbour_bytes a.rightward in
    flat (le 4 (40 + length l + length r) ∷ le 2 17 ∷ le 2 (flags_of a.leftward a.rightward) ∷ a.key ∷ l ∷ r ∷ [])

abbrev pub proof_bytes : Proof → Bytes
proof_bytes (presence p) = presence_bytes p
proof_bytes (absence a) = absence_bytes a

-- Which proofs have a form in bytes.
pub record PresenceForm (p : Presence) : Type 0 where
  pub key32 : Whole32 p.key
  pub value32 : Whole32 p.value
  pub short : length p.steps ≤ 256
  pub steps32 : All (λ s. Whole32 s.sibling) p.steps

abbrev pub NeighbourForm : Option Presence → Type 0
NeighbourForm none = Unit {0}
NeighbourForm (some p) = PresenceForm p

-- An absence proof has at least one neighbour.
abbrev pub ProofForm : Proof → Type 0
ProofForm (presence p) = PresenceForm p
ProofForm (absence a) =
    Whole32 a.key × NeighbourForm a.leftward × NeighbourForm a.rightward ×
    (1 ≤ flags_of a.leftward a.rightward)

-- The bytes are one whole proof in form, no byte over.
pub record ProofIs (x : Bytes) (p : Proof) : Type 0 where
  pub bytes : x ≡ proof_bytes p
  pub form : ProofForm p

-- Which proof something holds of; none, where it holds of none.
abbrev pub Which : (Proof → Type 0) → Option Proof → Type 0
Which P none = (p : Proof) → P p → ⊥
Which P (some p) = P p

-- What bytes are read as, as the code reads them; no public promise reaches it. Kinds and sizes.
abbrev pub presence_kind : ℕ
presence_kind = 16

abbrev pub absence_kind : ℕ
absence_kind = 17

abbrev pub step_size : ℕ
step_size = 33

abbrev pub presence_head : ℕ
presence_head = 72

abbrev pub absence_head : ℕ
absence_head = 40

abbrev pub most_steps : ℕ
most_steps = 256

abbrev pub StepForm : Step → Type 0
StepForm s = Whole32 s.sibling

-- The first n steps that bytes stand for, and whether each has side 0 or 1.
abbrev pub steps_in : ℕ → Bytes → List Step
steps_in zero x = []
steps_in (suc n) x = record { side = eqb (get_or x 0 0) 1; sibling = slice 1 32 x } ∷ steps_in n (drop step_size x)

abbrev pub sides_right : ℕ → Bytes → Bool
sides_right zero x = true
sides_right (suc n) x = leb (get_or x 0 0) 1 && sides_right n (drop step_size x)

unfoldable pub step_count : Bytes → ℕ
step_count x = field 6 2 x

-- Bytes are one whole presence proof in form.
abbrev pub presence_tests : Bytes → List Bool
presence_tests x =
    leb presence_head (length x)
    ∷ eqb (field 0 4 x) (length x)
    ∷ eqb (field 4 2 x) presence_kind
    ∷ leb (step_count x) most_steps
    ∷ eqb (length x) (presence_head + step_size * step_count x)
    ∷ sides_right (step_count x) (drop presence_head x)
    ∷ []

unfoldable pub is_presence : Bytes → Bool
is_presence x = all_of (presence_tests x)

-- The presence proof that they are then.
unfoldable pub presence_in : Bytes → Presence
presence_in x =
    record { key = slice 8 32 x; value = slice 40 32 x; steps = steps_in (step_count x) (drop presence_head x) }

-- An absence proof's neighbours fill it after its head; of two, the left one's own length says where the right one
-- starts.
unfoldable pub left_length : Bytes → ℕ
left_length x = field absence_head 4 x

unfoldable pub left_part : Bytes → Bytes
left_part x = slice absence_head (left_length x) x

unfoldable pub right_part : Bytes → Bytes
right_part x = drop (absence_head + left_length x) x

unfoldable pub flags : Bytes → ℕ
flags x = field 6 2 x

-- Whether the bytes after the head are the neighbours that the flags say.
unfoldable pub neighbours_fit : Bytes → Bool
neighbours_fit x =
    cond (leb (flags x) 2) (is_presence (drop absence_head x)) (is_presence (left_part x) && is_presence (right_part x))

-- Bytes are one whole absence proof in form.
abbrev pub absence_tests : Bytes → List Bool
absence_tests x =
    leb absence_head (length x)
    ∷ eqb (field 0 4 x) (length x)
    ∷ eqb (field 4 2 x) absence_kind
    ∷ leb 1 (flags x)
    ∷ leb (flags x) 3
    ∷ neighbours_fit x
    ∷ []

unfoldable pub is_absence : Bytes → Bool
is_absence x = all_of (absence_tests x)

-- The absence proof that they are then.
unfoldable pub absence_in : Bytes → Absence
absence_in x = record {
  key = slice 8 32 x;
  leftward =
      cond (eqb (flags x) 1)
      (some (presence_in (drop absence_head x)))
      (cond (eqb (flags x) 3) (some (presence_in (left_part x))) none);
  rightward =
      cond (eqb (flags x) 2)
      (some (presence_in (drop absence_head x)))
      (cond (eqb (flags x) 3) (some (presence_in (right_part x))) none);
}

-- The proof that bytes stand for; none where they aren't one whole record in form (10).
unfoldable pub proof_in : Bytes → Option Proof
proof_in x =
    cond (is_presence x) (some (presence (presence_in x))) (cond (is_absence x) (some (absence (absence_in x))) none)
