-- What is known of the paths of an absence proof before its neighbours are judged: whether they lead to the root.
-- Assumes nothing.
use Rattle.std.specs.Prelude.{◌<◌, ◌≤◌, ◌≡◌, Bool, true, drop}
use Rattle.terms.specs.Bits.{Bytes}
use Rattle.proofrecords.specs.ProofBytes.{flags, left_part, right_part}
use Rattle.verify_neighbours.specs.Neighbours.{leads}

-- The path of the only neighbour, or those of both, by the flags; nothing need be known of the second where the first
-- leads elsewhere.
pub record Around (root x : Bytes) (g h : Bool) : Type 0 where
  pub lone : flags x ≤ 2 → g ≡ leads root (drop 40 x)
  pub leftward : 2 < flags x → g ≡ leads root (left_part x)
  pub rightward : 2 < flags x → g ≡ true → h ≡ leads root (right_part x)
