-- Document 01, 'Reading and proving': the forks of a walk in lent memory. Assumes nothing.
use Rattle.std.specs.Prelude.{ℕ, cond, ◌&&◌, not, eqb, Some}
use Rattle.std.specs.declared.option.Option as option
use Rattle.std.specs.Bool.{beq}
use Rattle.terms.specs.Bits.{Bytes, Side}
use Rattle.place.specs.declared.Place as declared-place
use Rattle.read_step.specs.Walk.{kid_in}

-- The fork towards side b after a turn at the inner node in slot i, at place p: that node, if the walk turned away from
-- b and a child is there.
unfoldable pub fork_after : Bytes → ℕ → declared-place.Place → Side → Side → option.Option declared-place.Place →
    option.Option declared-place.Place
fork_after s i p turn b f =
    cond (beq turn (not b) && not (eqb (kid_in i s b).version 0)) (Some p) f
