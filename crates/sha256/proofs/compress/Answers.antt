-- The 64 rounds, added to the hash value before them.
-- Assumes nothing.
use mathlib.Core.Path.{ap, ◌∙◌}
use Rattle.sha256.specs.declared.State.{State}
use Rattle.sha256.specs.Sha256.{added}
use Rattle.sha256.specs.Rolling.{folded}
use Rattle.sha256.proofs.compress.Goals as goal

pub returns : goal.returns
unfolding folded
returns c = c.add_state.ensures ∙ ap (λ (x : State). added x c.args.s) c.rounds.ensures
