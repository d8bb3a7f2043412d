-- A test of each slot, slot by slot: where those before i pass, those to come decide. Assumes nothing.
use Prim.Native.Nat.{ℕ, ◌+◌, ◌<◌, ◌≤◌}
use mathlib.Core.Path.{◌≡◌, refl, sym, ◌∙◌}
use mathlib.Core.Bool.{Bool, true, false}
use mathlib.Core.List.{List, ◌∷◌}
use lib.ListN.{length, drop}
use Rattle.terms.specs.declared.Form.{Form}
use Rattle.terms.specs.Bits.{Bytes}
use Rattle.terms.specs.Records.{Slot}
use Rattle.local.specs.Test.{every}
use Rattle.layout.specs.Sizes.{room_of}
use Rattle.layout.specs.Headers.{size_right}
use Rattle.layout.specs.Stores.{store_in, slot_no}
use Rattle.store.proofs.Scans.{Scan, scan_start, scan_here, scan_next, scan_end}

abbrev Rest : Form → Bytes → (Slot → Bool) → List Slot → List Slot → Type 0
Rest fm s f xs ys = every f (store_in fm s).slots ≡ every f ys

abbrev pub Passed : Form → Bytes → (Slot → Bool) → ℕ → ℕ → Type 0
Passed fm s f n i = Scan fm s (Rest fm s f) n i

pub pass_start : {fm : Form} (s : Bytes) (f : Slot → Bool) → size_right fm (length s) ≡ true → {n : ℕ} → n ≡ room_of fm (length s) → Passed fm s f n 0
pass_start {fm} s f e m = scan_start s (Rest fm s f) e m refl

module _ {fm : Form} {s : Bytes} (f : Slot → Bool) {n i : ℕ} (w : Passed fm s f n i) (h : i < n) {t : Bool} (e : t ≡ f (slot_no fm i s)) where
  pub pass_next : t ≡ true → Passed fm s f n (i + 1)
  pass_next k =
      let here : f (slot_no fm i s) ≡ true = sym e ∙ k in
      let on : every f (slot_no fm i s ∷ drop (i + 1) (store_in fm s).slots) ≡ every f (drop (i + 1) (store_in fm s).slots) = rw here in
      scan_next w h (Rest fm s f) (scan_here w h ∙ on)

  pub pass_off : t ≡ false → false ≡ every f (store_in fm s).slots
  pass_off k =
      let here : f (slot_no fm i s) ≡ false = sym e ∙ k in
      let off : every f (slot_no fm i s ∷ drop (i + 1) (store_in fm s).slots) ≡ false = rw here in
      sym (scan_here w h ∙ off)

pub pass_end : {fm : Form} {s : Bytes} (f : Slot → Bool) {n i : ℕ} → Passed fm s f n i → n ≤ i → true ≡ every f (store_in fm s).slots
pass_end _ w h = sym (scan_end w h)
