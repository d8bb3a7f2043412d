-- A batch off form or out of order is refused before a step is taken. Assumes nothing.
use Prim.Native.Nat.{ℕ}
use mathlib.Core.Path.{◌≡◌}
use mathlib.Core.Bool.{true, false}
use Rattle.terms.specs.Bits.{Bytes}
use Rattle.meaning.specs.Calls.{ascending, refused, refuse}
use Rattle.batch.specs.Batch.{asks, batch_form, batch_of}
use Rattle.promises.specs.Calls.{SoundBytes, refuses}
use Rattle.apply_publish.specs.Apply.{ApplyDoes}

module _ {s : Bytes} (w : SoundBytes s) (number : ℕ) (batch : Bytes) where
  pub refused_4 : batch_form batch ≡ false → ApplyDoes number batch s (refused 4) s
  unfolding batch_of refuse
  refused_4 e = refuses {m = 4} w (rw e)

  pub refused_5 : batch_form batch ≡ true → ascending (asks batch) ≡ false → ApplyDoes number batch s (refused 5) s
  unfolding batch_of refuse
  refused_5 e f = refuses {m = 5} w (rw (e, f))
