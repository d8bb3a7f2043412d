-- Applying a batch answers a number, and tells version, root and count of new records. Assumes nothing.
use Rattle.std.specs.Prelude.{ℕ, List, ◌++◌}
use Rattle.std.proofs.Math.Option.{Option}
use Rattle.terms.specs.Bits.{Bytes}
use Rattle.terms.specs.Fields.{le}
use Rattle.terms.specs.Records.{Ask}
use Rattle.meaning.specs.Calls.{Applied, apply}
use Rattle.meaning.specs.Answers.{Exports}
use Rattle.nodehash.specs.Node.{leaf_hash, inner_hash}
use Rattle.batch.specs.Asked.{Asks}
use Rattle.promises.specs.Calls.{Does}

-- Version 4, root 32, count 4.
abbrev pub told : Applied → Bytes
told a = le 4 a.version ++ (a.root ++ le 4 a.count)

-- Applying a batch to the bytes s as a number answers r and leaves s as t, and the array f for the answer as g.
pub record ApplyExports (number : ℕ) (batch s f : Bytes) (r : ℕ) (t g : Bytes) : Type 0 where
  pub asked : Option (List Ask)
  pub asks : Asks batch asked
  pub applied : Exports (λ a. Does (apply leaf_hash inner_hash number asked) s a t) told f r g

-- The same bytes of the three fields, as the code writes them.
unfoldable pub answer_bytes : ℕ → Bytes → ℕ → Bytes
answer_bytes version root count = le 4 version ++ (root ++ le 4 count)
