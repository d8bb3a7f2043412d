-- `slots_put::put_inner` meets its contract: head, children and counts fill the slot. Assumes nothing.
use native.Mathlib.Omega.{arith}
use mathlib.Core.Path.{refl}
use Rattle.terms.specs.Records.{tally}
use Rattle.hash.proofs.Laws.{hash_whole}
use Rattle.slots.specs.Answer.{child_says}
use Rattle.slots_put.proofs.Writing.{plain_put, counted_put}
use Rattle.slots_put.proofs.put_inner.Goals as goal

pub returns-then-size-lt-COUNTED_SIZE : goal.returns-then-size-lt-COUNTED_SIZE
unfolding child_says
returns-then-size-lt-COUNTED_SIZE c =
    let a = c.args in
    λ f l. plain_put _ a.version a.retired (child_says a.left) (child_says a.right) a.s.now (hash_whole a.left.hash).0
    (hash_whole a.right.hash).0 c.inner_kind-kind.ensures c.put_head.ensures c.put_child.ensures c.put_child-2.ensures
    f (tally a.lefts a.rights) c.if-size-lt-COUNTED_SIZE.true refl l

pub returns : goal.returns
unfolding child_says
returns c =
    let a = c.args in
    λ f l. counted_put _ a.version a.retired (child_says a.left) (child_says a.right) a.s.now (hash_whole a.left.hash).0
    (hash_whole a.right.hash).0 c.inner_kind-kind.ensures c.put_head.ensures c.put_child.ensures c.put_child-2.ensures
    f (tally a.lefts a.rights) (omega arith) refl l c.put_u32.ensures c.put_u32-2.ensures
