-- What a store and its table say before a guess. Assumes nothing.
use Prim.Native.Nat.{ℕ, ◌≤◌}
use native.Mathlib.Omega.{arith}
use mathlib.Core.Path.{◌≡◌, subst}
use mathlib.Core.Bool.{Bool, true}
use lib.ListN.{length}
use Rattle.terms.specs.declared.Form.TheVariants.{Counted as counted}
use Rattle.terms.specs.Bits.{Bytes}
use Rattle.layout.specs.Sizes.{room_of}
use Rattle.layout.proofs.Headers.{size_says}
use Rattle.check_pass.specs.Passes.{Room}
use Rattle.promises.specs.Calls.{SoundBytes}
use Rattle.index_look.specs.Looks.{Decided}
use Rattle.index_look.proofs.Nodes.{sound_size}

-- a test that was passed
pub decided_yes : (b : Bool) {a : Type 0} → b ≡ true → Decided b a → a
decided_yes b {a} e = subst (λ c. Decided c a) e

module _ {s : Bytes} {n : ℕ} (w : SoundBytes s) (e : n ≡ room_of counted (length s)) where
  pub sound_room : Room counted s n
  sound_room = record { size = sound_size w; many = e }

  pub sound_small : n ≤ 16384
  sound_small = omega (arith, e, size_says counted (length s) (sound_size w))
