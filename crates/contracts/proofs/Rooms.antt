-- Bytes written at the front of a room, by what is left of it. Assumes nothing.
use native.Mathlib.Nat.{zero-add}
use mathlib.Core.Path.{◌≡◌, ap}
use mathlib.Core.List.{◌++◌}
use lib.ListN.{length, drop}
use Rattle.terms.specs.Bits.{Bytes}
use Rattle.fields.specs.Written.{written}

pub front_written : (x room : Bytes) → written 0 x room ≡ x ++ drop (length x) room
unfolding written
front_written x room = ap (λ n. x ++ drop n room) (zero-add (length x))
