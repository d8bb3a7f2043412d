-- An answer of which the code hands on a number only, as a length or a count. No public promise reaches this file.
-- Assumes nothing.
use Rattle.std.specs.Prelude.{ℕ}
use Rattle.meaning.specs.Calls.{Answer, refused, accepted}

-- The answer with the number of what is given.
abbrev pub sized : {A : Type 0} → (A → ℕ) → Answer A → Answer ℕ
sized size (refused n) = refused n
sized size (accepted a) = accepted (size a)
