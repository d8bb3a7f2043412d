-- The steps of a presence proof where they lie, as the code reads them. No public promise reaches this file. Assumes
-- nothing.
use Rattle.std.specs.Prelude.{ℕ, ◌+◌, ◌*◌, ◌≤◌, List, length, get_or, drop, eqb}
use Rattle.terms.specs.Bits.{Bytes}
use Rattle.terms.specs.Fields.{slice}
use Rattle.terms.specs.Records.{Step}
use Rattle.proofrecords.specs.ProofBytes.{step_size, presence_head, steps_in}

-- The bytes have room for n steps after the head of a presence proof.
abbrev pub Room : ℕ → Bytes → Type 0
Room n x = presence_head + step_size * n ≤ length x

-- Step i where it lies, counted from the leaf.
unfoldable pub step_at : ℕ → Bytes → Step
step_at i x = record {
  side = eqb (get_or x (presence_head + step_size * i) 0) 1;
  sibling = slice (presence_head + step_size * i + 1) 32 x;
}

-- The first n steps after the head.
abbrev pub first_steps : ℕ → Bytes → List Step
first_steps n x = steps_in n (drop presence_head x)
