-- `order_look::bits_stand` meets its contract: the bytes before a word are the same, and the first word that differs decides. Assumes nothing.
use Prim.Native.Nat.{◌*◌}
use mathlib.Core.Path.{◌≡◌}
use lib.ListN.{take}
use Rattle.order_look.proofs.bits_stand.Given as goal

abbrev pub invariant-loop-word : goal.invariant-loop-word
invariant-loop-word l = take (8 * l.word) l.x ≡ take (8 * l.word) l.y
