-- Document 01, 'Checking', of neighbours where they lie in bytes: each part of when they show that a key is absent.
-- Assumes nothing.
use Rattle.std.specs.Prelude.{Bool, not, ◌&&◌}
use Rattle.std.proofs.Math.Option.{some}
use Rattle.terms.specs.Bits.{Bytes, Side}
use Rattle.meaning.specs.Checking.{outermost, leads_to, neighbour_holds, absence_holds}
use Rattle.nodehash.specs.Node.{leaf_hash, inner_hash}
use Rattle.proofrecords.specs.ProofBytes.{presence_in, absence_in}

-- The steps of the presence proof x lead from the leaf hash to the root.
abbrev pub leads : Bytes → Bytes → Bool
leads root x = leads_to leaf_hash inner_hash root (presence_in x)

-- The neighbour x on side b leads to the root, and its key is on that side.
abbrev pub neighbour : Side → Bytes → Bytes → Bytes → Bool
neighbour b root k x = neighbour_holds leaf_hash inner_hash b root k (presence_in x)

-- The neighbour x on side b is the only one: its path is outermost on the other side, where the key is.
abbrev pub lone_neighbour : Side → Bytes → Bytes → Bytes → Bool
lone_neighbour b root k x = neighbour b root k x && outermost (not b) (presence_in x).steps

-- The neighbours l and r hold, and their paths part around the key.
abbrev pub both_neighbours : Bytes → Bytes → Bytes → Bytes → Bool
both_neighbours root k l r = absence_holds leaf_hash inner_hash root k (some (presence_in l)) (some (presence_in r))

-- The neighbours of the absence proof x, as its flags say, show that the key is absent.
abbrev pub neighbours : Bytes → Bytes → Bytes → Bool
neighbours root k x = absence_holds leaf_hash inner_hash root k (absence_in x).leftward (absence_in x).rightward
