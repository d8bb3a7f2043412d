-- A slot that holds the node is there, with its record. Assumes nothing.
use Prim.Native.Nat.{ℕ, ◌<◌}
use native.Mathlib.Omega.{arith}
use mathlib.Core.Path.{◌≡◌, sym}
use mathlib.Core.Bool.{Bool, true, false}
use lib.ListN.{length}
use Rattle.terms.specs.declared.Form.TheVariants.{Counted as counted}
use Rattle.terms.specs.Bits.{Bytes, Place}
use Rattle.layout.specs.Sizes.{room_of}
use Rattle.layout.specs.Headers.{size_right}
use Rattle.layout.specs.Stores.{slot_no, Has}
use Rattle.store.proofs.Slots.{slots_many}
use Rattle.agree.specs.Holding.{node_here}
use Rattle.agree.proofs.Agreeing.{its_record}
use Rattle.guess.specs.Guess.{NodeAt}

-- a slot that is there
pub slot_has : (s : Bytes) {n i : ℕ} → size_right counted (length s) ≡ true → n ≡ room_of counted (length s) → i < n → Has counted s i
slot_has s h e l = record { size = h; inside = omega (arith, e) }

pub held : {s : Bytes} {i : ℕ} → Has counted s i → (v : ℕ) (p : Place) (t : Bool) → t ≡ node_here v p (slot_no counted i s) → NodeAt s i v p t
held {s} {i} h v p true u = (omega (arith, h.inside, slots_many counted s), its_record v p (slot_no counted i s) (sym u))
held h v p false u = tt
