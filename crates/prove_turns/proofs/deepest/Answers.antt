-- `prove_turns::deepest` meets its contract, by the turn and whether a child is there. Assumes nothing.
use mathlib.Core.Path.{sym, ◌∙◌}
use Rattle.prove_turns.proofs.Forks.{fork_same, fork_none, fork_new}
use Rattle.prove_turns.proofs.deepest.Goals as goal

pub returns-then-turn-side : goal.returns-then-turn-side
returns-then-turn-side c = let a = c.args in fork_same a.store.now a.i a.place a.fork a.turn a.side c.if-turn-side.true

pub returns-then-child_version-eq0 : goal.returns-then-child_version-eq0
returns-then-child_version-eq0 c = let a = c.args in fork_none a.store.now a.i a.place a.fork a.turn a.side (sym c.child_version.ensures ∙ c.if-child_version-eq0.true)

pub returns : goal.returns
returns c =
    let a = c.args in
    fork_new a.store.now a.i a.place a.fork a.turn a.side c.if-turn-side.false (λ e. c.if-child_version-eq0.false (c.child_version.ensures ∙ e))
