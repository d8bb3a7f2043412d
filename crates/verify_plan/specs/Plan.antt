-- The paths of a proof: which records to walk, and what is known of the proof then. Assumes nothing.
use Rattle.std.specs.Prelude.{◌≤◌, ◌≡◌, Bool, length, drop}
use Rattle.terms.specs.Bits.{Bytes}
use Rattle.verify_neighbours.specs.Neighbours.{leads}
use Rattle.verify_one.specs.Lane.{Lies}
use Rattle.verify_given.specs.Given.{Leading}
use Rattle.verify_plan.specs.declared.Paths.{Paths}

pub record PathsIn (x : Bytes) (r : Paths) : Type 0 where
  pub few : r.many ≤ 2
  pub near : r.first ≤ length x
  pub near2 : r.second ≤ length x
  pub lies : 1 ≤ r.many → Lies x r.first
  pub lies2 : 2 ≤ r.many → Lies x r.second
  pub leading : (root : Bytes) (g h : Bool) → (1 ≤ r.many → g ≡ leads root (drop r.first x)) →
      (2 ≤ r.many → h ≡ leads root (drop r.second x)) → Leading root x g h
