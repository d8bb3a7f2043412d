-- What the tests of a move say. No public promise reaches this file. Assumes nothing.
use Rattle.std.specs.Prelude.{ℕ}
use Rattle.terms.specs.declared.Form.{Form}
use Rattle.terms.specs.Bits.{Bytes}
use Rattle.promises.specs.Check.{Checked}
use Rattle.move_rules.specs.Moves.{SameRoom}

-- 1 where a size is wrong, else what checking the source says.
pub data Opened (from to : Form) (s old : Bytes) : ℕ → Type 0 where
  wrong_size : (SameRoom from to s old → ⊥) → Opened from to s old 1
  checked : {r : ℕ} → SameRoom from to s old → Checked from s r → Opened from to s old r
