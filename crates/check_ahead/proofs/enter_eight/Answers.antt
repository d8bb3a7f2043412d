-- `check_ahead::enter_eight` meets its contract: eight messages, eight hashes. Assumes nothing.
use Prim.Native.Nat.{◌<◌}
use native.Mathlib.Omega.{arith}
use mathlib.Core.Path.{sym, ◌∙◌}
use Rattle.check_ahead.proofs.enter_eight.Goals as goal

pub enter-requires : goal.enter-requires
enter-requires c =
    let l = c.loop-l.l in
    let b : l < 8 = omega arith in
    (c.requires.0 l b, c.requires.1 l b, (λ r x. c.messages_of-x.ensures l b r x ∙ sym (c.hash_in.ensures ∙ c.eight_hashes-h.ensures l b)), c.loop-l.invariant)
