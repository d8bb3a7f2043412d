-- Document 01, 'The tree of a set of grants': each child is handed its own run of the batch. No public promise reaches
-- this file: runs are the code's and the steps'. Assumes nothing.
use Rattle.std.specs.Prelude.{ℕ, Bool, List}
use Rattle.std.specs.Bool.{beq}
use Rattle.terms.specs.Bits.{Side, filter, bit}
use Rattle.terms.specs.Records.{Ask, ask_key}

-- An ask whose key goes on with b after i bits.
abbrev pub asks_for : ℕ → Side → Ask → Bool
asks_for i b a = beq b (bit i (ask_key a))

-- The run of a batch for the child on a side.
abbrev pub run : ℕ → Side → List Ask → List Ask
run i b batch = filter (asks_for i b) batch
