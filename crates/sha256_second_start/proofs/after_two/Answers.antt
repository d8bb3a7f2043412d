-- Two of the four terms are zero.
-- Assumes nothing.
use Prim.Native.Nat.{ℕ}
use mathlib.Core.Path.{ap, ◌∙◌}
use Rattle.sha256_words.specs.Words.{◌⊞◌}
use Rattle.sha256_second_start.proofs.Laws.{two_and_seven}
use Rattle.sha256_second_start.proofs.after_two.Goals as goal

pub returns : goal.returns
returns c = c.add.ensures ∙ ap (λ (n : ℕ). n ⊞ c.args.q) c.sigma1.ensures ∙ two_and_seven _ _
