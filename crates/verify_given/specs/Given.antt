-- What is known of the paths of a proof before it is checked: whether the first, and the second where there are two,
-- lead to the root. Assumes nothing.
use Rattle.std.specs.Prelude.{◌≡◌, Bool, true}
use Rattle.terms.specs.Bits.{Bytes}
use Rattle.proofrecords.specs.ProofBytes.{is_presence, is_absence}
use Rattle.verify_neighbours.specs.Neighbours.{leads}
use Rattle.verify_neighbours.specs.Around.{Around}

-- The paths of a proof in form.
pub record Leading (root x : Bytes) (g h : Bool) : Type 0 where
  pub direct : is_presence x ≡ true → g ≡ leads root x
  pub around : is_absence x ≡ true → Around root x g h
