-- `place::front` meets its contract: at bit i the place is that of the first i bits. Assumes nothing.
use Prim.Native.Nat.{ℕ, ◌+◌, ◌*◌, ◌<◌}
use native.Mathlib.Omega.{arith}
use native.Mathlib.Numerals.{add-one}
use mathlib.Core.Path.{ap, sym, ◌∙◌, subst}
use mathlib.Core.Bool.{false}
use lib.ListN.{length, take}
use lib.Seq.{take-suc}
use Rattle.terms.specs.Bits.{Bytes, bits, bit, longer}
use Rattle.terms.proofs.Places.{length_bits}
use Rattle.place.specs.declared.Place as declared
use Rattle.place.specs.Place.{Stands, Grown}
use Rattle.place.proofs.front.Goals as goal

-- the first bits of a key, one more
front-next : (k : Bytes) (i : ℕ) (p q : declared.Place) → i < 8 * length k → Stands (take i (bits k)) i p → Grown (bit i k) p q →
    Stands (take (i + 1) (bits k)) (i + 1) q
unfolding bit longer
front-next k i p q h w g = let l : i < length (bits k) = omega (arith, length_bits k) in
    record {
      proper = g.proper;
      place = g.place ∙ ap (longer (bit i k)) w.place ∙ sym (take-suc (bits k) i false l) ∙ rw (add-one i);
      count = omega (arith, g.count, w.count);
    }

pub loop-i-preserved : goal.loop-i-preserved
loop-i-preserved c =
    let w = c.loop-i in
    front-next c.args.key.now w.i w.place c.child_place-place.result (omega (arith, c.requires.0, c.requires.1)) w.invariant
    (subst (λ t. Grown t w.place c.child_place-place.result) c.key_bit.ensures c.child_place-place.ensures)
