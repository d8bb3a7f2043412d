-- The code's own words: the bytes of a leaf op and of a path, and which proofs a message may say, case by case; that
-- is what `Parts` and the form of our own record say (`raw_parts` and `parts_raw` of proofs/Parts). No public promise
-- reaches this file. Assumes nothing.
use Rattle.std.specs.Prelude.{ℕ, ◌≤◌, List, [], ◌∷◌, ◌++◌, length}
use Rattle.std.proofs.Math.Option.{Option, none, some, map}
use Rattle.terms.specs.Bits.{Bytes, All}
use Rattle.terms.specs.Records.{Step, Presence, Proof, presence, absence}
use Rattle.proofrecords.specs.ProofBytes.{StepForm, most_steps, flags_of}
use Rattle.messages.specs.Wire.{message_field}
use Rattle.messages.specs.Message.{leaf_bytes, inner_bytes, our_leaf, op_of, own_presence}
use Rattle.messages.specs.Parts.{Raw}

abbrev pub leaf_op : Bytes
leaf_op = leaf_bytes our_leaf

abbrev pub inner_op : Step → Bytes
inner_op s = inner_bytes (op_of s)

abbrev pub path : List Step → Bytes
path [] = []
path (s ∷ steps) = message_field 4 (inner_op s) ++ path steps

abbrev pub most_key : ℕ
most_key = 256

abbrev pub most_value : ℕ
most_value = 4096

pub record RawPresence (p : Presence) : Type 0 where
  pub key_raw : Raw most_key p.key
  pub value_raw : Raw most_value p.value
  pub short : length p.steps ≤ most_steps
  pub steps32 : All StepForm p.steps

abbrev pub RawNeighbour : Option Presence → Type 0
RawNeighbour none = Unit {0}
RawNeighbour (some p) = RawPresence p

abbrev pub RawProof : Proof → Type 0
RawProof (presence p) = RawPresence p
RawProof (absence a) =
    Raw most_key a.key
    × RawNeighbour a.leftward
    × RawNeighbour a.rightward
    × (1 ≤ flags_of a.leftward a.rightward)

abbrev pub own_neighbour : (Bytes → Bytes) → Option Presence → Option Presence
own_neighbour sha o = map (own_presence sha) o
