-- What reading answers once it is known what a message says. No public promise reaches this file. Assumes nothing.
use Rattle.std.specs.declared.option.Option as option
use Rattle.std.specs.Prelude.{ℕ, ◌-◌, ◌≤◌, ◌≡◌, Some, None}
use Rattle.std.proofs.Math.Option.{some}
use Rattle.terms.specs.Bits.{Bytes}
use Rattle.terms.specs.Records.{Proof}
use Rattle.meaning.specs.Answers.{number_of, told_of, room_after}
use Rattle.sha256.specs.Sha256.{sha256}
use Rattle.messages.specs.Lending.{record_of}
use Rattle.messages.specs.Spots.{Spot, Spots, nowhere}
use Rattle.message_rules.specs.Answers.{read_into, answer_bytes}
use Rattle.message_leaf.specs.declared.Shown.{Shown}

-- Key and value stand in a message.
pub record Bounded (s : Shown) : Type 0 where
  pub key_bounds : (s.key ≤ s.kstop) × (s.kstop ≤ 29999)
  pub value_bounds : (s.value ≤ s.vstop) × (s.vstop ≤ 29999)

abbrev pub spot : ℕ → ℕ → Spot
spot from end = record { at = from; size = end - from }

-- Where a leaf's key and value stand: nowhere, where there is no leaf.
abbrev pub key_of : option.Option Shown → Spot
key_of None = nowhere
key_of (Some s) = spot s.key s.kstop

abbrev pub value_of : option.Option Shown → Spot
value_of None = nowhere
value_of (Some s) = spot s.value s.vstop

abbrev pub spots_of : ℕ → ℕ → option.Option Shown → option.Option Shown → Spots
spots_of key stop first second = record {
  asked = spot key stop;
  key1 = key_of first;
  value1 = value_of first;
  key2 = key_of second;
  value2 = value_of second;
}

pub record ReadsAs (q : Proof) (room f : Bytes) (r : ℕ) (t g : Bytes) : Type 0 where
  pub answer : r ≡ number_of (read_into (some q) room)
  pub record_is : t ≡ room_after (record_of sha256) (read_into (some q) room) room
  pub told : g ≡ told_of answer_bytes (read_into (some q) room) f
