-- What goes out of apply's answer. Assumes nothing.
use Rattle.std.specs.Prelude.{ℕ, ◌≡◌}
use Rattle.terms.specs.Bits.{Bytes}
use Rattle.meaning.specs.Calls.{Answer, refused, accepted, Applied}
use Rattle.contracts.specs.Apply.{told}

-- A number of refusal goes out as it is, and the array stays; else 0 goes out, and what is told fills the array.
abbrev pub Sent : Answer Applied → Bytes → ℕ → Bytes → Type 0
Sent (refused m) f r g = (r ≡ m) × (g ≡ f)
Sent (accepted a) f r g = (r ≡ 0) × (g ≡ told a)
