-- A pass over the slots of a store of the right size: the slots before i have a property. Assumes nothing.
use Prim.Native.Nat.{ℕ, ◌+◌, ◌<◌}
use mathlib.Core.Path.{◌≡◌}
use mathlib.Core.Bool.{Bool, true, false, not}
use mathlib.Core.List.{List}
use lib.ListN.{length}
use Rattle.terms.specs.declared.Form.{Form}
use Rattle.terms.specs.Bits.{Bytes}
use Rattle.terms.specs.Records.{Slot}
use Rattle.layout.specs.Sizes.{room_of}
use Rattle.layout.specs.Headers.{size_right}
use Rattle.layout.specs.Stores.{Has}
use Rattle.store.proofs.Scans.{Scan, scan_start, scan_slot, scan_next}
use Rattle.check_pass.specs.Passes.{Passed, Each}
use Rattle.check_pass.proofs.Passes.{passed_so, each_start, each_next}

abbrev Anything : List Slot → List Slot → Type 0
Anything xs ys = Unit {0}

pub record Walk (fm : Form) (s : Bytes) (P : ℕ → Type 0) (n i : ℕ) : Type 0 where
  pub scan : Scan fm s Anything n i
  pub each : Each P i

pub walk_start : {fm : Form} (s : Bytes) (P : ℕ → Type 0) → size_right fm (length s) ≡ true → {n : ℕ} → n ≡ room_of fm (length s) → Walk fm s P n 0
walk_start s P e m = record { scan = scan_start s Anything e m tt; each = each_start P }

module _ {fm : Form} {s : Bytes} {P : ℕ → Type 0} {n i : ℕ} (w : Walk fm s P n i) (h : i < n) where
  pub walk_slot : Has fm s i
  walk_slot = scan_slot w.scan h

  pub walk_next : P i → Walk fm s P n (i + 1)
  walk_next p = record { scan = scan_next w.scan h Anything tt; each = each_next P i w.each p }

  -- by a test of the slot that has not failed
  pub walk_on : (b : Bool) → not b ≡ false → Passed b (P i) → Walk fm s P n (i + 1)
  walk_on b e p = walk_next (passed_so b e p)
