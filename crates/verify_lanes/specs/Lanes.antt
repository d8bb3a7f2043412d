-- Presence proofs where they lie in bytes, one after the other or inside absence proofs, side by side: of each what
-- `verify_one` says of one. Assumes nothing.
use Rattle.std.specs.Prelude.{◌≡◌, ℕ, ◌<◌, Bool, List, slice_index, slice_index_or, None}
use Rattle.std.specs.declared.option.Option as option
use Rattle.terms.specs.Bits.{Bytes}
use Rattle.hash.specs.declared.Hash.{Hash}
use Rattle.hash.specs.Hash.{hash_bytes}
use Rattle.verify_neighbours.specs.Neighbours.{leads}
use Rattle.sha256_eight.specs.Each.{Each}
use Rattle.nodehash_eight.specs.Eight.{no_hash}
use Rattle.verify_one.specs.Lane.{from, Lies, LeafHash, StepHash, top_of, Under, EntryOf}

abbrev pub LiesAt : Bytes → ℕ → ℕ → Type 0
LiesAt p i a = Lies p a

-- All the places of an array, and the first n of them.
abbrev pub AllLie : Bytes → ℕ → List ℕ → Type 0
AllLie p n at = Each n (LiesAt p) 0 at

-- Lane l of each kind, at the places of `at`.
abbrev pub LeafAt : Bytes → List ℕ → ℕ → Bytes → Type 0
LeafAt p at l hash = LeafHash (from p (slice_index at l)) hash

abbrev pub StepIn : Bytes → List ℕ → ℕ → List Hash → ℕ → Bytes → Type 0
StepIn p at i h l hash = StepHash (from p (slice_index at l)) i (slice_index_or h l no_hash) hash

abbrev pub UnderAt : Bytes → List ℕ → ℕ → ℕ → Hash → Type 0
UnderAt p at i l h = Under (from p (slice_index at l)) i h

abbrev pub TopAt : Bytes → List ℕ → ℕ → Hash → Type 0
TopAt p at l h = hash_bytes h ≡ top_of (from p (slice_index at l))

-- Whether the record at place j of `at` leads to the root.
abbrev pub LeadsAt : Bytes → Bytes → List ℕ → ℕ → Bool → Type 0
LeadsAt root p at j b = b ≡ leads root (from p (slice_index at j))

-- A number below n, for arrays of indices.
abbrev pub Below : ℕ → ℕ → ℕ → Type 0
Below n i v = v < n

abbrev pub AllBelow : ℕ → List ℕ → Type 0
AllBelow n order = (i : ℕ) → slice_index order i < n

-- The places of the records whose indices are in `jobs`, and the hashes at their tops.
abbrev pub PlaceOf : List ℕ → List ℕ → ℕ → ℕ → Type 0
PlaceOf at jobs l a = a ≡ slice_index at (slice_index jobs l)

abbrev pub TopOf : Bytes → List ℕ → List ℕ → ℕ → Hash → Type 0
TopOf p at jobs l h = hash_bytes h ≡ top_of (from p (slice_index at (slice_index jobs l)))

-- What is entered for the first n records is right.
abbrev pub AllKnown : Bytes → Bytes → List ℕ → ℕ → List (option.Option Bool) → Type 0
AllKnown root p at n known = (j : ℕ) → j < n → EntryOf root (from p (slice_index at j)) (slice_index_or known j None)
