-- What the own fields of a record's bytes must say. Assumes nothing.
use Rattle.std.specs.Prelude.{◌≤◌, ◌≡◌, true}
use Rattle.terms.specs.Bits.{Bytes, begins}
use Rattle.layout.specs.Slots.{place_in, version_in, since_in, key_in}
use Rattle.check_kin.specs.declared.Kept as declared-kept
use Rattle.check_alone.specs.Parts.{life_right}

-- Version and life are right.
pub record HeadOwn (k : declared-kept.Kept) (x : Bytes) : Type 0 where
  pub latest : version_in x ≤ k.latest
  pub life : life_right k (version_in x) (since_in x) ≡ true

-- A leaf's key begins with its place too.
pub record LeafOwn (k : declared-kept.Kept) (x : Bytes) : Type 0 where
  pub head : HeadOwn k x
  pub key : begins (place_in x) (key_in x) ≡ true
