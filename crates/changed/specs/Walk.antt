-- How two trees are compared in one walk, a leaf above an inner node carried down to the side of its key. No public
-- promise reaches this file: that the walk makes the visits and lists the changes is a theorem. Assumes nothing.
use Rattle.std.specs.Prelude.{ℕ, zero, suc, ◌+◌, true, false, cond, List, [], ◌∷◌, ◌++◌}
use Rattle.std.specs.Bool.{beq}
use Rattle.terms.specs.Bits.{Side, left, right, bit}
use Rattle.terms.specs.Records.{Grant}
use Rattle.meaning.specs.Tree.{VTree, vnone, vleaf, vinner, kid}
use Rattle.changed.specs.Changes.{Change, changed}
use Rattle.changed.specs.Visits.{no_deeper}

-- How many visits are made from a place that is n bits short of a key.
abbrev pub visits_at : ℕ → VTree → VTree → ℕ
visits_at zero t u = 1
visits_at (suc n) t u =
    suc (cond (no_deeper t u) 0 (visits_at n (kid left t) (kid left u) + visits_at n (kid right t) (kid right u)))

-- What is compared at the longer place, below a place of i bits: the child, or the leaf if its key goes there.
abbrev pub under : ℕ → Side → VTree → VTree
under i b vnone = vnone
under i b (vleaf v g) = cond (beq b (bit i g.key)) (vleaf v g) vnone
under i b (vinner v l r) = kid b (vinner v l r)

-- The grant of a leaf.
abbrev pub held : VTree → List Grant
held vnone = []
held (vleaf v g) = g ∷ []
held (vinner v l r) = []

-- What the walk lists from a place of i bits, n bits short of a key.
abbrev pub listed : ℕ → ℕ → VTree → VTree → List Change
listed zero i t u = changed (held t) (held u)
listed (suc n) i t u =
    cond (no_deeper t u) (changed (held t) (held u))
    (listed n (suc i) (under i left t) (under i left u) ++ listed n (suc i) (under i right t) (under i right u))
