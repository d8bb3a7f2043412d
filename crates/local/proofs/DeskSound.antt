-- So the desk's stores are sound, and so are some odd ones; damaged in one place they are not. Assumes nothing.
use mathlib.Core.Path.{sym, ◌∙◌}
use mathlib.Core.Bool.{true≢false}
use Rattle.terms.specs.Bits.{All}
use Rattle.terms.proofs.Lists.{all_map}
use Rattle.meaning.specs.Sound.{Sound}
use Rattle.local.proofs.Decides.{test_decides_sound}
use Rattle.local.proofs.Desk.{toy_leaf, toy_inner, good, damaged, Passes, Fails, good_passes, damaged_fails}

pub desk_stores_sound : All (Sound toy_leaf toy_inner) good
desk_stores_sound = all_map Passes (Sound toy_leaf toy_inner) good (λ st h. (test_decides_sound toy_leaf toy_inner st).0 h) good_passes

pub damaged_not_sound : All (λ st. Sound toy_leaf toy_inner st → ⊥) damaged
damaged_not_sound =
    all_map Fails (λ st. Sound toy_leaf toy_inner st → ⊥) damaged
    (λ st h s. true≢false (sym ((test_decides_sound toy_leaf toy_inner st).1 s) ∙ h)) damaged_fails
