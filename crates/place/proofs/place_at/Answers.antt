-- `place::place_at` meets its contract: the bytes are copied whole. Assumes nothing.
use native.Mathlib.Omega.{arith}
use mathlib.Core.Path.{refl}
use Rattle.terms.specs.Bits.{Byte}
use Rattle.terms.proofs.Lists.{all_of}
use Rattle.place.proofs.Places.{stands_at}
use Rattle.place.proofs.place_at.Goals as goal

pub returns : goal.returns
returns c =
    let b = c.args.b.now in
    let h = c.requires in
    stands_at b c.args.count _ h.0 (all_of Byte b 0 (λ i _. omega (arith, c.type_inv.b i))) h.1 h.2 c.copy_from_slice.ensures.after refl
