-- What one parent of a record says of it, as the code asks. No public promise reaches this file. Assumes nothing.
use Rattle.std.specs.Prelude.{ℕ, ◌≤◌, max, ◌≡◌, Bool, true, false, cond, not, List, [], ◌∷◌, eqb, leb, Option, Some, None}
use Rattle.terms.specs.Bits.{same_bytes}
use Rattle.hash.specs.Hash.{hash_bytes}
use Rattle.slots.specs.declared.Child as declared-child
use Rattle.check_kin.specs.declared.Kept as declared-kept
use Rattle.check_link.specs.declared.Below as declared-below

-- What a parent with this version and end of life says of it, naming the child c beside one of the version v.
abbrev pub link_tests : declared-kept.Kept → declared-below.Below → ℕ → ℕ → declared-child.Child → ℕ → List Bool
link_tests k b version ends c v =
    same_bytes (hash_bytes b.hash) (hash_bytes c.hash)
    ∷ leb b.version (max k.oldest version)
    ∷ leb ends b.ends
    ∷ not (cond b.leaf (eqb v 0) false)
    ∷ []

-- What is said where a test stands for whether it is right, and n for the kept life of a parent.
abbrev pub SaidOf : Bool → ℕ → Option ℕ → Type 0
SaidOf t n (Some m) = (t ≡ true) × (n ≡ m)
SaidOf t n None = t ≡ false

-- No life is longer than there are versions.
abbrev pub Short : Option ℕ → Type 0
Short (Some m) = m ≤ 4294967296
Short None = Unit {0}
