-- Four times sixteen rounds are 64, added to the hash value before them.
-- Assumes nothing.
use mathlib.Core.Path.{ap, ◌∙◌}
use Rattle.sha256.specs.declared.State.{State}
use Rattle.sha256.specs.Sha256.{added}
use Rattle.sha256.specs.Rolling.{folded}
use Rattle.sha256.proofs.Rolling.{four_times}
use Rattle.sha256_second_block.proofs.compress_second.Goals as goal

pub returns : goal.returns
unfolding folded
returns c =
    c.add_state.ensures
    ∙ ap (λ (x : State). added x c.args.s)
    (four_times _ _ _ _ _ _ _ _ _ c.second1.ensures.0 c.second2.ensures.0 c.second3-r.ensures.0
    c.second0.ensures c.second1.ensures.1 c.second2.ensures.1 c.second3-r.ensures.1)
