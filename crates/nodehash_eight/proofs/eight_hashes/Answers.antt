-- `nodehash_eight::eight_hashes` meets its contract. Each lane is the hash of its own message. Assumes nothing.
use mathlib.Core.Path.{ap, ap₂, ◌∙◌}
use Rattle.sha256.specs.declared.State.{State}
use Rattle.sha256.specs.Sha256.{state_bytes}
use Rattle.sha256.specs.Rolling.{folded}
use Rattle.sha256_eight.specs.Lanes.{words_in}
use Rattle.nodehash_eight.specs.Eight.{lane_hash}
use Rattle.nodehash_eight.proofs.eight_hashes.Goals as goal

pub returns : goal.returns
unfolding lane_hash
returns c =
    λ i h.
    ap state_bytes (c.compress_eight.ensures i h ∙ ap₂ folded
    (c.compress_eight-s.ensures i h ∙ ap (λ (v : State). folded v (words_in c.args.x.now i)) (c.starts-z.ensures i h))
    (c.second_blocks-y.ensures i h))
