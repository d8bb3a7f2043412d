-- What a shelf of b bits holds, by the grants of its parts, one for each string of b bits, and what its list holds.
use Rattle.std.specs.Prelude.{ℕ, zero, suc, ◌≡◌, ◌⊎◌, true, List, [], ◌∷◌, ◌++◌, map, length}
use Rattle.terms.specs.Bits.{Bytes, left, right, Place, longer, All, begins, pack}
use Rattle.terms.specs.Records.{Grant, grant, Ask, insert, delete}
use Rattle.meaning.specs.Tree.{tree_of, grants_at, hash}

-- The grants of each part, by its bits.
abbrev pub Parts : Type 0
Parts = Place → List Grant

-- The grants of all parts at a place that is n bits short of a part's, in the order of their keys.
abbrev pub gathered : ℕ → Place → Parts → List Grant
gathered zero p parts = parts p
gathered (suc n) p parts = gathered n (longer left p) parts ++ gathered n (longer right p) parts

abbrev pub all_grants : ℕ → Parts → List Grant
all_grants b parts = gathered b [] parts

abbrev pub Among : Place → List Place → Type 0
Among p [] = ⊥
Among p (q ∷ qs) = (q ≡ p) ⊎ Among p qs

-- Each grant's key begins with the bits of its part.
abbrev pub InPlace : ℕ → Parts → Type 0
InPlace b parts = (p : Place) → length p ≡ b → All (λ g. begins p g.key ≡ true) (parts p)

module _ (leaf_hash inner_hash : Bytes → Bytes → Bytes) where
  abbrev pub root_of : List Grant → Bytes
  root_of gs = hash leaf_hash inner_hash (tree_of gs)

  -- The list's grant for a part: the part's bits followed by zeros, with its root. A part without grants isn't in it.
  abbrev pub listed : Place → List Grant → List Grant
  listed p [] = []
  listed p (g ∷ gs) = grant (pack 32 p) (root_of (g ∷ gs)) ∷ []

  abbrev pub list_grants : ℕ → Parts → List Grant
  list_grants b parts = all_grants b (λ p. listed p (parts p))

  -- What the list is asked for a part: its new root, or to be without it.
  abbrev pub ask_for : Place → List Grant → Ask
  ask_for p [] = delete (pack 32 p)
  ask_for p (g ∷ gs) = insert (pack 32 p) (root_of (g ∷ gs))

  abbrev pub new_roots : Parts → List Place → List Ask
  new_roots parts ps = map (λ p. ask_for p (parts p)) ps

  -- The root of a shelf by its grants alone: each part's are those that begin with its bits.
  unfoldable pub shelf_root : ℕ → List Grant → Bytes
  shelf_root b gs = root_of (list_grants b (λ p. grants_at p gs))
