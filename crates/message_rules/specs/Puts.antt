-- Bytes written from a place on, and where the next begin. No public promise reaches this file. Assumes nothing.
use Rattle.std.specs.Prelude.{ℕ, ◌+◌, ◌≤◌, ◌≡◌, length}
use Rattle.terms.specs.Bits.{Bytes}
use Rattle.fields.specs.Written.{written}

pub record Puts (at : ℕ) (f s t : Bytes) (next : ℕ) : Type 0 where
  pub bytes_are : t ≡ written at f s
  pub next_is : next ≡ at + length f

-- There is room for them.
pub record RoomFor (at : ℕ) (f s : Bytes) : Type 0 where
  pub fits : at + length f ≤ length s
