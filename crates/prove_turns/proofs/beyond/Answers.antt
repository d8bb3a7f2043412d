-- `prove_turns::beyond` meets its contract: the order of keys, by the side. Assumes nothing.
use mathlib.Core.Path.{ap, sym, ◌∙◌}
use Rattle.meaning.specs.Proving.{beyond}
use Rattle.prove_turns.proofs.beyond.Goals as goal

pub returns-then-side : goal.returns-then-side
returns-then-side c = let a = c.args in c.before-then-side.ensures ∙ ap (λ b. beyond b a.other.now a.key.now) (sym c.if-side.true)

pub returns : goal.returns
returns c = let a = c.args in c.before-2.ensures ∙ ap (λ b. beyond b a.other.now a.key.now) (sym c.if-side.false)
