-- `slots_form::child_right` meets its contract: a child that is present passes, and else its hash decides. Assumes nothing.
use Prim.Native.Nat.{◌+◌}
use mathlib.Core.Path.{ap, ◌∙◌}
use native.Mathlib.Omega.{arith}
use native.Mathlib.Nat.{add-sub_cancel_left}
use lib.ListN.{take, drop}
use borrow.Author.Tests.{le-leb, lt-leb}
use Rattle.terms.specs.Fields.{field, slice, all_zero}
use Rattle.layout.specs.Slots.{child_in, child_right}
use Rattle.slots_form.proofs.child_right.Goals as goal

pub returns-then-get_u32-ge1 : goal.returns-then-get_u32-ge1
unfolding child_right child_in
returns-then-get_u32-ge1 c = let a = c.args in rw (le-leb 1 (field a.at 4 a.s.now) (omega arith))

pub returns : goal.returns
unfolding child_right child_in slice
returns c =
    let a = c.args in
    rw (lt-leb 1 (field a.at 4 a.s.now) (omega arith)) (c.all_zero.ensures ∙ ap (λ n. all_zero (take n (drop (a.at + 4) a.s.now))) (add-sub_cancel_left (a.at + 4) 32))
