-- `verify_cut::gather` meets its contract. One record more is cut off with each turn, and its paths are planned. Assumes nothing.
use Prim.Native.Nat.{◌-◌}
use native.Mathlib.Omega.{arith}
use mathlib.Core.Path.{subst}
use lib.ListN.{length-take, length-drop, drop}
use Rattle.verify_cut.specs.Row.{PieceEnd}
use Rattle.verify_cut.proofs.Plans.{part_is, plan_none, plan_more, gathered_off, gathered_over, gathered_all}
use Rattle.verify_cut.proofs.gather.Goals as goal

pub loop-i-init : goal.loop-i-init
loop-i-init c = plan_none _ _ _ _ c.requires.1 c.requires.2

pub piece_end-requires : goal.piece_end-requires
piece_end-requires c = c.loop-i.invariant.within

pub returns-in_err-e : goal.returns-in_err-e
returns-in_err-e c =
    let a = c.args in
    rw c.from_residual.ensures (gathered_off a.p.now a.n _ _ c.loop-i.i c.loop-i.m c.loop-i.a c.loop-i.invariant (omega arith)
    (subst (PieceEnd a.p.now c.loop-i.a) c.in_err-e.was c.piece_end.ensures))

pub slice_bounds-paths_of-count : goal.slice_bounds-paths_of-count
slice_bounds-paths_of-count c = let w = subst (PieceEnd c.args.p.now c.loop-i.a) c.in_ok-e.was c.piece_end.ensures in omega (arith, w.1)

pub slice_bounds-paths_of-start : goal.slice_bounds-paths_of-start
slice_bounds-paths_of-start c = let w = subst (PieceEnd c.args.p.now c.loop-i.a) c.in_ok-e.was c.piece_end.ensures in omega (arith, w.1)

pub slice_bounds-paths_of-end : goal.slice_bounds-paths_of-end
slice_bounds-paths_of-end c = let w = subst (PieceEnd c.args.p.now c.loop-i.a) c.in_ok-e.was c.piece_end.ensures in omega (arith, w.2)

pub overflow_add-at : goal.overflow_add-at
overflow_add-at c =
    let p = c.args.p.now in
    let w = subst (PieceEnd c.args.p.now c.loop-i.a) c.in_ok-e.was c.piece_end.ensures in
    omega (arith, w.1, c.paths_of-w.ensures.near, length-take (c.in_ok-e.e - c.loop-i.a) (drop c.loop-i.a p), length-drop c.loop-i.a p)

pub bounds-at-m : goal.bounds-at-m
bounds-at-m c = omega (arith, c.loop-i.invariant.few, c.requires)

pub overflow_add-at-in-loop-i : goal.overflow_add-at-in-loop-i
overflow_add-at-in-loop-i c =
    let p = c.args.p.now in
    let w = subst (PieceEnd c.args.p.now c.loop-i.a) c.in_ok-e.was c.piece_end.ensures in
    omega (arith, w.1, c.paths_of-w.ensures.near2, length-take (c.in_ok-e.e - c.loop-i.a) (drop c.loop-i.a p), length-drop c.loop-i.a p)

pub overflow_add-at-in-loop-i-2 : goal.overflow_add-at-in-loop-i-2
overflow_add-at-in-loop-i-2 c = omega (arith, c.loop-i.invariant.few, c.requires)

pub bounds-at-m-in-loop-i : goal.bounds-at-m-in-loop-i
bounds-at-m-in-loop-i c = omega (arith, c.loop-i.invariant.few, c.requires)

pub bounds-index-i : goal.bounds-index-i
bounds-index-i c = omega (arith, c.requires)

pub overflow_add-m : goal.overflow_add-m
overflow_add-m c = omega (arith, c.loop-i.invariant.few, c.requires, c.paths_of-w.ensures.few)

pub loop-i-preserved : goal.loop-i-preserved
loop-i-preserved c =
    let a = c.args in
    let w = subst (PieceEnd c.args.p.now c.loop-i.a) c.in_ok-e.was c.piece_end.ensures in
    let e = w.1 in
    rw e (plan_more a.p.now a.n c.loop-i.at c.loop-i.index c.loop-i.i c.loop-i.m c.loop-i.a c.loop-i.invariant (omega arith) c.requires.0 w.0 c.paths_of-w.result
    (rw (part_is a.p.now c.loop-i.a _ e) at c.paths_of-w.ensures))

pub returns-then-a-p : goal.returns-then-a-p
returns-then-a-p c =
    let a = c.args in
    gathered_over a.p.now a.n _ _ c.loop-i.i c.loop-i.m c.loop-i.a c.loop-i.invariant (omega arith) (λ z. omega (arith, z, c.if-a-p.true))

pub returns : goal.returns
returns c =
    let a = c.args in
    gathered_all a.p.now a.n _ _ c.loop-i.i c.loop-i.m c.loop-i.a c.loop-i.invariant (omega arith) (omega (arith, c.if-a-p.false))
