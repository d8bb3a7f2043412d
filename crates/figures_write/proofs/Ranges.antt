-- A range test by test, and what sound bytes give the counting. Assumes nothing.
use Prim.Native.Nat.{ℕ, ◌-◌, ◌<◌, ◌≤◌}
use native.Mathlib.Omega.{arith}
use mathlib.Core.Path.{◌≡◌, refl}
use mathlib.Core.Bool.{true, false}
use lib.ListN.{length}
use lib.Dec.{ltb}
use borrow.Author.Tests.{le-leb, lt-leb}
use Rattle.terms.specs.declared.Form.TheVariants.{Counted as counted}
use Rattle.terms.specs.Bits.{Bytes}
use Rattle.terms.specs.Records.{Store}
use Rattle.meaning.specs.Calls.{is_kept}
use Rattle.layout.specs.Headers.{size_right}
use Rattle.layout.proofs.Headers.{accepted as header-accepted, size_right_of}
use Rattle.store.proofs.Slots.{slots_many}
use Rattle.promises.specs.Calls.{SoundBytes}
use Rattle.quarter.specs.Figures.{range_right}
use Rattle.figures_count.specs.Count.{Whole}

-- the tests of a range, one after the other
module _ (st : Store) (first last : ℕ) where
  pub first_off : is_kept st first ≡ false → false ≡ range_right st first last
  unfolding range_right
  first_off e = rw e refl

  module _ (a : is_kept st first ≡ true) where
    pub last_off : is_kept st last ≡ false → false ≡ range_right st first last
    unfolding range_right
    last_off e = rw (a, e) refl

    module _ (b : is_kept st last ≡ true) where
      pub order_off : last < first → false ≡ range_right st first last
      unfolding range_right
      order_off h = rw (a, b, lt-leb first last h) refl

      pub length_decides : first ≤ last → ltb (last - first) 1024 ≡ range_right st first last
      unfolding range_right
      length_decides h = rw (a, b, le-leb first last h) refl

-- sound bytes
module _ {s : Bytes} (w : SoundBytes s) where
  pub sound_size : size_right counted (length s) ≡ true
  sound_size = let h = header-accepted s w.capacity w.oldest w.latest w.headed in size_right_of counted (length s) w.capacity h.size h.some h.fits

  pub sound_slots : Whole s
  sound_slots = record { size = sound_size; whole = λ i x h e. w.sound.whole i x (omega (arith, slots_many counted s)) e }
