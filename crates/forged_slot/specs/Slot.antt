-- Request 2026-12: a slot as a node of a version, and its message. Assumes nothing.
use Rattle.std.specs.Prelude.{ℕ, Bool, false}
use Rattle.terms.specs.Bits.{Bytes}
use Rattle.terms.specs.Records.{Slot, free, used, spoiled}
use Rattle.read_step.specs.Walk.{body_in}
use Rattle.forgery.specs.Messages.{message_of, stands_in}

-- A slot holds a record that is in v's tree.
abbrev pub stands_here : ℕ → Slot → Bool
stands_here v free = false
stands_here v (used r) = stands_in v r
stands_here v (spoiled x) = false

-- The message of a slot's bytes that are a record.
abbrev pub message_in : Bytes → Bytes
message_in x = message_of (body_in x)
