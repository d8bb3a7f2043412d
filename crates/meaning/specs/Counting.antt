-- Document 02, 2026-09: the number of grants of a version, the grant at a position, by counts alone, for every store.
use Rattle.std.specs.Prelude.{ℕ, zero, suc, ◌+◌, ◌-◌, cond, List, [], ◌∷◌, eqb, ltb}
use Rattle.terms.specs.Bits.{Side, left, right, Place, longer, begins}
use Rattle.terms.specs.Records.{Grant, grant, Child, Body, leaf_body, inner_body, Tally, Record, Store}
use Rattle.meaning.specs.Sight.{Sight, matches, nothing, spoilt, Looking, scan}
use Rattle.meaning.specs.Calls.{Answer, refused, accepted, is_kept}
use Rattle.meaning.specs.Reading.{lost_record, spoilt_record, stray_leaf, refusal_of}

-- The leaves at a record by what it says: 1 for a leaf, the counts summed for an inner record.
abbrev pub weight_by : Body → Tally → ℕ
weight_by (leaf_body k x) c = 1
weight_by (inner_body l r) c = c.leftward + c.rightward

unfoldable pub weight : Record → ℕ
weight r = weight_by r.body r.counts

-- The number of grants: of the root record alone; 0 for no root.
abbrev pub number_at : Sight → Answer ℕ
number_at (matches r) = accepted (weight r)
number_at nothing = accepted 0
number_at (spoilt i) = refused (refusal_of (spoilt_record i))

-- 8, then 3.
abbrev pub read_number_by : Looking → Store → ℕ → Answer ℕ
read_number_by look st v = cond (is_kept st v) (number_at (look.root v)) (refused 8)

unfoldable pub read_number : Store → ℕ → Answer ℕ
read_number st v = read_number_by (scan st) st v

-- A leaf is the grant at position 0, else 3; an inner record sends the positions below its left count to the left, and
-- the others, less that count, to the right.
abbrev pub at_body : Place → Body → Tally → ℕ → (Side → Child → ℕ → Answer Grant) → Answer Grant
at_body p (leaf_body k x) c i below =
    cond (begins p k) (cond (eqb i 0) (accepted (grant k x)) (refused 3)) (refused (refusal_of stray_leaf))
at_body p (inner_body l r) c i below = cond (ltb i c.leftward) (below left l i) (below right r (i - c.leftward))

abbrev pub at_sight : Place → Sight → ℕ → (Side → Child → ℕ → Answer Grant) → Answer Grant
at_sight p (matches r) i below = at_body p r.body r.counts i below
at_sight p nothing i below = refused (refusal_of lost_record)
at_sight p (spoilt s) i below = refused (refusal_of (spoilt_record s))

-- The descent at a child, at a place which is n bits short of a key: a missing child gives 3; below a whole key 17.
abbrev pub descend : ℕ → Looking → Place → Child → ℕ → Answer Grant
descend zero look p c i =
    cond (eqb c.version 0) (refused 3)
    (at_sight p (look.node c.version p) i (λ b d j. refused (refusal_of lost_record)))
descend (suc n) look p c i = cond (eqb c.version 0) (refused 3)
    (at_sight p (look.node c.version p) i (λ b d j. descend n look (longer b p) d j))

-- 3 where the root is spoilt; then 20 for a position that isn't below the number; then the descent.
abbrev pub position_at : Looking → Sight → ℕ → Answer Grant
position_at look (matches r) i =
    cond (ltb i (weight r)) (at_body [] r.body r.counts i (λ b d j. descend 255 look (b ∷ []) d j)) (refused 20)
position_at look nothing i = refused 20
position_at look (spoilt s) i = refused (refusal_of (spoilt_record s))

-- The grant at a position, 0 the least key: 8, then these.
abbrev pub read_position_by : Looking → Store → ℕ → ℕ → Answer Grant
read_position_by look st v i = cond (is_kept st v) (position_at look (look.root v) i) (refused 8)

unfoldable pub read_position : Store → ℕ → ℕ → Answer Grant
read_position st v i = read_position_by (scan st) st v i

-- What a set of grants says of a position: the grant there, 20 if it isn't below their number.
abbrev pub grant_at : List Grant → ℕ → Answer Grant
grant_at [] i = refused 20
grant_at (g ∷ gs) zero = accepted g
grant_at (g ∷ gs) (suc i) = grant_at gs i
