-- 2026-05: applying a batch and pruning with the table kept right. Assumes nothing.
use Rattle.std.specs.Prelude.{ℕ, List}
use Rattle.std.proofs.Math.Option.{Option}
use Rattle.terms.specs.Bits.{Bytes}
use Rattle.terms.specs.Fields.{le}
use Rattle.terms.specs.Records.{Ask}
use Rattle.meaning.specs.Calls.{apply, prune}
use Rattle.meaning.specs.Answers.{Exports}
use Rattle.nodehash.specs.Node.{leaf_hash, inner_hash}
use Rattle.batch.specs.Asked.{Asks}
use Rattle.index_rules.specs.Tables.{DoesBoth}
use Rattle.contracts.specs.Apply.{told}

-- Applying a batch to the bytes s and their table answers r and leaves s as t, the table as u and the array f as g.
pub record AppliesBoth (number : ℕ) (batch s : Bytes) (table : List ℕ) (f : Bytes) (r : ℕ) (t : Bytes) (u : List ℕ)
    (g : Bytes) : Type 0 where
  pub asked : Option (List Ask)
  pub asks : Asks batch asked
  pub applied : Exports (λ a. DoesBoth (apply leaf_hash inner_hash number asked) s table a t u) told f r g

-- Pruning both to n, with the array f for the count, in four bytes.
abbrev pub PrunesBoth : ℕ → Bytes → List ℕ → Bytes → ℕ → Bytes → List ℕ → Bytes → Type 0
PrunesBoth n s table f r t u g = Exports (λ a. DoesBoth (prune n) s table a t u) (le 4) f r g
