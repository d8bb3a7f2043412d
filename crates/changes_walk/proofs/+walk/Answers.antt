-- `changes_walk::walk` meets its contract: it goes no deeper and puts what the leaves say, or walks to the left and then to the right.
-- Assumes nothing.
use Prim.Native.Nat.{◌-◌}
use native.Mathlib.Omega.{arith}
use mathlib.Core.Path.{refl, sym, ◌∙◌, subst}
use Rattle.changes_walk.specs.Walk.{WalkSays}
use Rattle.changes_walk.proofs.Walking.{no_budget, may_end, ended, goes_short, goes_left, passed_left, goes_right, went_on}
use Rattle.changes_walk.proofs.+walk.Goals as goal

pub returns-then-budget-eq0 : goal.returns-then-budget-eq0
returns-then-budget-eq0 t c =
    let a = c.args in
    let s = a.store.now in
    let g = c.requires in
    (no_budget s a.place a.first a.second a.budget c.if-budget-eq0.true, refl)

pub overflow_sub-rest : goal.overflow_sub-rest
overflow_sub-rest t c = omega (arith, c.if-budget-eq0.false)

pub put_ends-next-requires : goal.put_ends-next-requires
put_ends-next-requires t c =
    let a = c.args in
    let s = a.store.now in
    let g = c.requires in
    let stop = sym (c.no_deeper.ensures s a.place) ∙ c.if-no_deeper.true in
    may_end s a.place a.first a.second g.here stop g c.if-budget-eq0.false

pub returns-then-no_deeper : goal.returns-then-no_deeper
returns-then-no_deeper t c =
    let a = c.args in
    let s = a.store.now in
    let g = c.requires in
    let stop = sym (c.no_deeper.ensures s a.place) ∙ c.if-no_deeper.true in
    ended s a.place a.first a.second g.here stop (a.budget - 1) a.budget (omega (arith, c.if-budget-eq0.false)) c.put_ends-next.ensures

pub left-left-requires : goal.left-left-requires
left-left-requires t c =
    let a = c.args in
    let s = a.store.now in
    let g = c.requires in
    let on = sym (c.no_deeper.ensures s a.place) ∙ c.if-no_deeper.false in
    (g.here.proper, goes_short s a.place a.first a.second g.here on)

pub below-first_left-requires : goal.below-first_left-requires
below-first_left-requires t c =
    let a = c.args in
    let s = a.store.now in
    let g = c.requires in
    let on = sym (c.no_deeper.ensures s a.place) ∙ c.if-no_deeper.false in
    ((g.here.size, g.here.apart), (g.here.proper, goes_short s a.place a.first a.second g.here on), g.here.old, c.left-left.ensures)

pub below-second_left-requires : goal.below-second_left-requires
below-second_left-requires t c =
    let a = c.args in
    let s = a.store.now in
    let g = c.requires in
    let on = sym (c.no_deeper.ensures s a.place) ∙ c.if-no_deeper.false in
    ((g.here.size, g.here.apart), (g.here.proper, goes_short s a.place a.first a.second g.here on), g.here.new, c.left-left.ensures)

pub walk-done-requires : goal.walk-done-requires
walk-done-requires t c =
    let a = c.args in
    let s = a.store.now in
    let g = c.requires in
    let on = sym (c.no_deeper.ensures s a.place) ∙ c.if-no_deeper.false in (
      omega (arith, c.left-left.ensures.count, goes_short s a.place a.first a.second g.here on),
      goes_left s a.place a.first a.second g.here on g c.if-budget-eq0.false c.left-left.ensures c.below-first_left.ensures c.below-second_left.ensures,
    )

pub returns-in_default : goal.returns-in_default
returns-in_default t c =
    let a = c.args in
    let s = a.store.now in
    let g = c.requires in
    let on = sym (c.no_deeper.ensures s a.place) ∙ c.if-no_deeper.false in
    let x = c.walk-done.new.room in
    let q = subst (λ z. WalkSays s c.left-left.result c.below-first_left.result c.below-second_left.result (a.budget - 1) a.writes a.room.now a.at z x) c.in_default.is c.walk-done.ensures in
    passed_left s a.place a.first a.second g.here on g c.if-budget-eq0.false c.left-left.ensures c.below-first_left.ensures c.below-second_left.ensures x q

pub right-right-requires : goal.right-right-requires
right-right-requires t c =
    let a = c.args in
    let s = a.store.now in
    let g = c.requires in
    let on = sym (c.no_deeper.ensures s a.place) ∙ c.if-no_deeper.false in
    (g.here.proper, goes_short s a.place a.first a.second g.here on)

pub below-first_right-requires : goal.below-first_right-requires
below-first_right-requires t c =
    let a = c.args in
    let s = a.store.now in
    let g = c.requires in
    let on = sym (c.no_deeper.ensures s a.place) ∙ c.if-no_deeper.false in
    ((g.here.size, g.here.apart), (g.here.proper, goes_short s a.place a.first a.second g.here on), g.here.old, c.right-right.ensures)

pub below-second_right-requires : goal.below-second_right-requires
below-second_right-requires t c =
    let a = c.args in
    let s = a.store.now in
    let g = c.requires in
    let on = sym (c.no_deeper.ensures s a.place) ∙ c.if-no_deeper.false in
    ((g.here.size, g.here.apart), (g.here.proper, goes_short s a.place a.first a.second g.here on), g.here.new, c.right-right.ensures)

pub walk-requires : goal.walk-requires
walk-requires t c =
    let a = c.args in
    let s = a.store.now in
    let g = c.requires in
    let on = sym (c.no_deeper.ensures s a.place) ∙ c.if-no_deeper.false in
    let x = c.walk-done.new.room in
    let q = subst (λ z. WalkSays s c.left-left.result c.below-first_left.result c.below-second_left.result (a.budget - 1) a.writes a.room.now a.at z x) c.in-Done.is c.walk-done.ensures in (
      omega (arith, c.right-right.ensures.count, goes_short s a.place a.first a.second g.here on),
      goes_right s a.place a.first a.second g.here on g c.if-budget-eq0.false c.left-left.ensures c.below-first_left.ensures c.below-second_left.ensures c.in-Done.b c.in-Done.n x q c.walk-done.auto.room
          c.right-right.ensures c.below-first_right.ensures c.below-second_right.ensures,
    )

pub returns : goal.returns
returns t c =
    let a = c.args in
    let s = a.store.now in
    let g = c.requires in
    let on = sym (c.no_deeper.ensures s a.place) ∙ c.if-no_deeper.false in
    let x = c.walk-done.new.room in
    let q = subst (λ z. WalkSays s c.left-left.result c.below-first_left.result c.below-second_left.result (a.budget - 1) a.writes a.room.now a.at z x) c.in-Done.is c.walk-done.ensures in
    went_on s a.place a.first a.second g.here on g c.if-budget-eq0.false c.left-left.ensures c.below-first_left.ensures c.below-second_left.ensures c.in-Done.b c.in-Done.n x q c.walk-done.auto.room
    c.right-right.ensures c.below-first_right.ensures c.below-second_right.ensures c.walk.result _ c.walk.ensures
