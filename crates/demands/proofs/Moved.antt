-- Document 02, 2026-10, over the contracts: an accepted move is worth what 02 says, and a sound source is moved. Assumes nothing.
use Prim.Native.Nat.{ℕ}
use mathlib.Core.Path.{◌≡◌}
use lib.ListN.{length}
use Rattle.terms.specs.declared.Form.TheVariants.{Plain as plain, Counted as counted}
use Rattle.terms.specs.Bits.{Bytes, Byte, All}
use Rattle.move_rules.specs.Moves.{SameRoom}
use Rattle.promises.specs.Calls.{SoundIn}
use Rattle.move_rules.specs.Claims.{Moved}
use Rattle.move_rules.proofs.Outcomes.{former_never_matter, sound_is_moved}
use Rattle.move_rules.proofs.Theorems.{accepted_move_is_worth}
use Rattle.contracts.specs.Contracts.{MovesOver, MovesBack}

-- An accepted move over, and one back, are worth what 02 says.
pub accepted_over_is_worth : {s old t : Bytes} → All Byte s → MovesOver s old 0 t → Moved plain s t
accepted_over_is_worth h w = accepted_move_is_worth h w

pub accepted_back_is_worth : {s old t : Bytes} → All Byte s → MovesBack s old 0 t → Moved counted s t
accepted_back_is_worth h w = accepted_move_is_worth h w

-- Every sound store is moved into a target of the right size.
pub sound_goes_over : {s old t : Bytes} {r : ℕ} → SameRoom plain counted s old → SoundIn plain s → MovesOver s old r t → r ≡ 0
sound_goes_over room w x = sound_is_moved room w x

pub sound_goes_back : {s old t : Bytes} {r : ℕ} → SameRoom counted plain s old → SoundIn counted s → MovesBack s old r t → r ≡ 0
sound_goes_back room w x = sound_is_moved room w x

-- The target's former bytes never matter.
pub former_bytes_of_a_move_never_matter : {s old new t u : Bytes} {m n : ℕ} → length old ≡ length new →
    (MovesOver s old m t → MovesOver s new n u → (m ≡ n) × (m ≡ 0 → t ≡ u)) × (MovesBack s old m t → MovesBack s new n u → (m ≡ n) × (m ≡ 0 → t ≡ u))
former_bytes_of_a_move_never_matter e = (λ x y. former_never_matter e x y, λ x y. former_never_matter e x y)
