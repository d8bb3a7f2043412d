-- Document 02, request 2026-01: which places are visited when two trees are compared. Assumes nothing.
use Rattle.std.specs.Prelude.{ℕ, zero, suc, Bool, true, false, cond, ◌&&◌, ◌||◌, not, List, [], ◌∷◌, ◌++◌, length, eqb}
use Rattle.terms.specs.Bits.{left, right, Place, longer}
use Rattle.meaning.specs.Tree.{VTree, vnone, vleaf, vinner, kid}

-- The tree has an inner node there.
abbrev pub is_inner : VTree → Bool
is_inner vnone = false
is_inner (vleaf v g) = false
is_inner (vinner v l r) = true

-- Two trees at one place have the same record there, a node of one kind and version: no two share version and place.
abbrev pub same_record : VTree → VTree → Bool
same_record vnone u = false
same_record (vleaf v g) vnone = false
same_record (vleaf v g) (vleaf w h) = eqb v w
same_record (vleaf v g) (vinner w l r) = false
same_record (vinner v l r) vnone = false
same_record (vinner v l r) (vleaf w h) = false
same_record (vinner v l r) (vinner w m s) = eqb v w

-- Where both trees have the same record, or neither has an inner node there, go no deeper.
unfoldable pub no_deeper : VTree → VTree → Bool
no_deeper t u = same_record t u || (not (is_inner t) && not (is_inner u))

-- From a place n bits short of a key: the place itself, and both longer ones where it goes deeper, at no whole key.
abbrev pub visited : ℕ → Place → VTree → VTree → List Place
visited zero p t u = p ∷ []
visited (suc n) p t u = p ∷ cond (no_deeper t u) []
    (visited n (longer left p) (kid left t) (kid left u) ++ visited n (longer right p) (kid right t) (kid right u))

-- How many they are for two trees, as the laws cite it.
abbrev pub visits : VTree → VTree → ℕ
visits t u = length (visited 256 [] t u)
