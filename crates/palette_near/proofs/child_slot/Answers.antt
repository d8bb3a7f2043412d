-- `palette_near::child_slot` meets its contract: what was found is a guess that leads. Assumes nothing.
use native.Mathlib.Omega.{arith}
use Rattle.layout.proofs.Headers.{size_says}
use Rattle.palette_near.proofs.Near.{led_set}
use Rattle.palette_near.proofs.child_slot.Goals as goal

pub guess_at-k-requires : goal.guess_at-k-requires
guess_at-k-requires c =
    let w = c.requires.0 in
    omega (arith, w.inside, size_says _ _ w.size)

pub overflow_cast-kids : goal.overflow_cast-kids
overflow_cast-kids c = omega (arith, c.found_by-found.ensures.most)

pub returns : goal.returns
returns c =
    let a = c.args in
    led_set a.store.now a.index.now a.kids.now c.guess_at-k.result c.found_by-found.result c.requires.1 c.found_by-found.ensures
