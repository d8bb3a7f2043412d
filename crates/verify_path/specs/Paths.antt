-- Document 01, 'Checking', of paths where they lie in bytes: where their steps lead, and where two go apart. Assumes
-- nothing.
use Rattle.std.specs.Prelude.{ℕ, Bool, not, ◌&&◌}
use Rattle.terms.specs.Bits.{Bytes, left, right}
use Rattle.terms.specs.Fields.{slice}
use Rattle.terms.specs.Records.{Step}
use Rattle.meaning.specs.Checking.{outermost, climb}
use Rattle.hash.specs.Hash.{hash_bytes}
use Rattle.nodehash.specs.Node.{leaf_hash, inner_hash}
use Rattle.proofrecords.specs.Steps.{step_at, first_steps}
use Rattle.verify_path.specs.declared.Step as declared

-- The step that is read.
abbrev pub step_of : declared.Step → Step
step_of s = record { side = s.right; sibling = hash_bytes s.sibling }

-- The hash that the first n steps lead to from the leaf hash.
abbrev pub top_after : ℕ → Bytes → Bytes
top_after n x = climb leaf_hash inner_hash (leaf_hash (slice 8 32 x) (slice 40 32 x)) (first_steps n x)

-- Two paths go apart at step i of x and step j of y: the left's with side 0, the right's with side 1, and below these
-- the left path is rightmost and the right path leftmost.
abbrev pub apart_at : ℕ → Bytes → ℕ → Bytes → Bool
apart_at i x j y =
    not (step_at i x).side && (step_at j y).side && outermost right (first_steps i x)
    && outermost left (first_steps j y)
