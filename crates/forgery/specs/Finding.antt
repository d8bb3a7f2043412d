-- Document 02, 2026-12: what a proof says, what a finding is, and which one the search names. Assumes nothing.
use Rattle.std.specs.Prelude.{ℕ, ◌≡◌, ◌⊎◌, Bool, true, false, cond, ◌&&◌, not, List, [], ◌∷◌, ◌++◌}
use Rattle.std.proofs.Math.Option.{Option, none, some}
use Rattle.terms.specs.Bits.{Bytes, All, same_bytes}
use Rattle.terms.specs.Records.{Grant, Presence, Proof, presence, absence, Store, zeros}
use Rattle.meaning.specs.Tree.{grants_in}
use Rattle.meaning.specs.Store.{tree_at_version}
use Rattle.meaning.specs.Reading.{Verdict, present, absent, answer_of}
use Rattle.forgery.specs.Messages.{node_messages, checked_messages}

abbrev pub neighbour_says : Option Presence → List (Bytes × Verdict)
neighbour_says none = []
neighbour_says (some p) = (p.key, present p.value) ∷ []

-- What a proof says: its key is present with the value, or absent; each neighbour is present with its value.
abbrev pub says : Proof → List (Bytes × Verdict)
says (presence p) = (p.key, present p.value) ∷ []
says (absence a) = (a.key, absent) ∷ (neighbour_says a.leftward ++ neighbour_says a.rightward)

-- It is true of a set of grants if they say the same of each key.
abbrev pub True : List Grant → Proof → Type 0
True gs p = All (λ s. answer_of s.0 gs ≡ s.1) (says p)

-- Nothing; two different messages with equal hash; or one whose hash is 32 zero bytes.
pub data Finding : Type 0 where
  nothing : Finding
  two_equal : Bytes → Bytes → Finding
  one_zero : Bytes → Finding

abbrev pub Among : Bytes → List Bytes → Type 0
Among m [] = ⊥
Among m (n ∷ ms) = (n ≡ m) ⊎ Among m ms

-- The first, where it is something, else the second; whether two verdicts are the same, and what is found by that. No
-- public promise reaches these.
abbrev pub or_else : Finding → Finding → Finding
or_else nothing f = f
or_else (two_equal m n) f = two_equal m n
or_else (one_zero m) f = one_zero m

abbrev pub same_verdict : Verdict → Verdict → Bool
same_verdict (present x) (present y) = same_bytes x y
same_verdict (present x) absent = false
same_verdict absent (present y) = false
same_verdict absent absent = true

abbrev pub all_true : List Grant → List (Bytes × Verdict) → Bool
all_true gs [] = true
all_true gs (s ∷ rest) = same_verdict (answer_of s.0 gs) s.1 && all_true gs rest

module _ (H : Bytes → Bytes) where
  -- What is found is named from a list of messages.
  abbrev pub NamedFrom : List Bytes → Finding → Type 0
  NamedFrom ms nothing = ⊥
  NamedFrom ms (two_equal m n) = Among m ms × Among n ms × (m ≡ n → ⊥) × (H m ≡ H n)
  NamedFrom ms (one_zero m) = Among m ms × (H m ≡ zeros)

  -- The first of some messages that differs from m and has the same hash; else what is found besides.
  abbrev pub partner_or : Finding → Bytes → List Bytes → Finding
  partner_or f m [] = f
  partner_or f m (n ∷ ns) = cond (not (same_bytes n m) && same_bytes (H n) (H m)) (two_equal n m) (partner_or f m ns)

  abbrev pub partner : Bytes → List Bytes → Finding
  partner m ns = partner_or nothing m ns

  -- The first of some messages with hash zero.
  abbrev pub zero_among : List Bytes → Finding
  zero_among [] = nothing
  zero_among (m ∷ ms) = cond (same_bytes (H m) zeros) (one_zero m) (zero_among ms)

  -- Each message hashed while checking: its hash is zero, or it has a partner among the nodes' messages. Then those.
  abbrev pub searched : List Bytes → List Bytes → Finding
  searched nodes [] = zero_among nodes
  searched nodes (m ∷ ms) = cond (same_bytes (H m) zeros) (one_zero m) (partner_or (searched nodes ms) m nodes)

  -- What is found of a proof that was accepted: nothing if it is true, else what the search names.
  unfoldable pub finding : Store → ℕ → Proof → Finding
  finding st v p =
      cond (all_true (grants_in (tree_at_version st v)) (says p))
      nothing
      (searched (node_messages v st.slots) (checked_messages H p))
