-- Where the descent to a position turns. No public promise reaches this file. Assumes nothing.
use Rattle.std.specs.Prelude.{ℕ, ◌-◌, ◌≡◌, cond, ltb}
use Rattle.terms.specs.Bits.{Side, left, right}
use Rattle.terms.specs.Records.{Grant}
use Rattle.meaning.specs.Calls.{Answer}
use Rattle.read_turn.specs.declared.Turn as declared-turn

-- The side that a position is on by the left count, and the position there.
abbrev pub Turned : ℕ → ℕ → declared-turn.Turn → Type 0
Turned lefts n r = (below : Side → ℕ → Answer Grant) → below r.right r.rest ≡ cond (ltb n lefts) (below left n)
    (below right (n - lefts))
