-- Request 2026-12: the search along the messages of a path. Assumes nothing.
use Rattle.std.specs.Prelude.{ℕ, Bool, true, false, cond, List, [], ◌∷◌}
use Rattle.terms.specs.Bits.{Bytes, same_bytes}
use Rattle.terms.specs.Fields.{slice}
use Rattle.terms.specs.Records.{zeros}
use Rattle.sha256.specs.Sha256.{sha256}
use Rattle.proofrecords.specs.Steps.{first_steps}
use Rattle.layout.specs.Stores.{store_of}
use Rattle.forgery.specs.Messages.{leaf_message, node_messages, upwards}
use Rattle.forgery.specs.Finding.{Finding, nothing, two_equal, one_zero, or_else, partner}

-- The messages of a version's nodes in a store's bytes.
abbrev pub nodes_in : ℕ → Bytes → List Bytes
nodes_in v s = node_messages v (store_of s).slots

-- At one message: its hash is zero, or it has a partner.
unfoldable pub at_message : List Bytes → Bytes → Finding
at_message nodes m = cond (same_bytes (sha256 m) zeros) (one_zero m) (partner sha256 m nodes)

-- The first of some messages at which there is something.
abbrev pub looked : List Bytes → List Bytes → Finding
looked nodes [] = nothing
looked nodes (m ∷ ms) = or_else (at_message nodes m) (looked nodes ms)

-- Of the messages of the first n steps of a presence proof.
unfoldable pub along_path : List Bytes → ℕ → Bytes → Finding
along_path nodes n x = looked nodes (upwards sha256 (leaf_message (slice 8 32 x) (slice 40 32 x)) (first_steps n x))

abbrev pub is_nothing : Finding → Bool
is_nothing nothing = true
is_nothing (two_equal m n) = false
is_nothing (one_zero m) = false
