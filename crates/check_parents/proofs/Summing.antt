-- The parents of a record, slot by slot: what they say is right so far, and how many kept versions they live at. Assumes nothing.
use Prim.Native.Nat.{ℕ, ◌+◌, ◌*◌, ◌<◌, ◌≤◌}
use native.Mathlib.Omega.{arith}
use native.Mathlib.Nat.{zero-add}
use mathlib.Core.Path.{◌≡◌, refl, sym, ◌∙◌, subst}
use mathlib.Core.Bool.{Bool, true, false}
use mathlib.Core.List.{List, ◌∷◌}
use lib.ListN.{length, drop}
use lib.Dec.{leb}
use Rattle.std.specs.Prelude.{Option, Some, None}
use Rattle.terms.specs.declared.Form.{Form}
use Rattle.terms.specs.Bits.{Bytes}
use Rattle.terms.specs.Records.{Record, Slot}
use Rattle.local.specs.Test.{every, total, by_record, link_test, life_above}
use Rattle.nodehash.specs.Node.{leaf_hash, inner_hash}
use Rattle.layout.specs.Sizes.{room_of}
use Rattle.layout.specs.Headers.{size_right}
use Rattle.layout.specs.Stores.{store_in, slot_no}
use Rattle.store.proofs.Scans.{Scan, scan_start, scan_here, scan_next, scan_end}
use Rattle.check_link.specs.declared.Below as declared-below
use Rattle.check_link.specs.Link.{Short}
use Rattle.check_parents.specs.Parents.{Is, SlotSays, ParentsSay}

abbrev linked : Form → Bytes → Record → Slot → Bool
linked fm s r = by_record true (link_test leaf_hash inner_hash (store_in fm s) r)

abbrev lives : Form → Bytes → Record → Slot → ℕ
lives fm s r = by_record 0 (life_above (store_in fm s) r)

-- what is left of both with the slots to come
pub record Left (fm : Form) (s : Bytes) (r : Record) (sum : ℕ) (ys : List Slot) : Type 0 where
  pub links : every (linked fm s r) (store_in fm s).slots ≡ every (linked fm s r) ys
  pub life : total (lives fm s r) (store_in fm s).slots ≡ sum + total (lives fm s r) ys

abbrev Rest : Form → Bytes → declared-below.Below → ℕ → List Slot → List Slot → Type 0
Rest fm s b sum xs ys = (r : Record) → Is (store_in fm s) b r → Left fm s r sum ys

pub record Summed (fm : Form) (s : Bytes) (b : declared-below.Below) (n sum j : ℕ) : Type 0 where
  pub scan : Scan fm s (Rest fm s b sum) n j
  pub fits : sum ≤ j * 4294967296

pub sum_start : {fm : Form} (s : Bytes) (b : declared-below.Below) → size_right fm (length s) ≡ true → {n : ℕ} → n ≡ room_of fm (length s) → Summed fm s b n 0 0
sum_start {fm} s b e m =
    record { scan = scan_start s (Rest fm s b 0) e m (λ r i. record { links = refl; life = rw zero-add }); fits = omega arith }

module _ {fm : Form} {s : Bytes} {b : declared-below.Below} {n sum j : ℕ} (w : Summed fm s b n sum j) where
  pub sum_short : {t : Option ℕ} {m : ℕ} → t ≡ Some m → Short t → m ≤ 4294967296
  sum_short e h = subst Short e h

  pub sum_next : {t : Option ℕ} {m : ℕ} → j < n → t ≡ Some m → Short t → SlotSays fm s j b t → Summed fm s b n (sum + m) (j + 1)
  sum_next {t} {m} h e k f =
      let u = sum_short e k in
      record {
        scan = scan_next w.scan h (Rest fm s b (sum + m)) (λ r i.
            let g = subst (SlotSays fm s j b) e f r i in
            let p = scan_here w.scan h r i in
            record { links = p.links ∙ rw g.0; life = omega (arith, p.life, g.1) });
        fits = omega (arith, w.fits);
      }

  pub sum_wrong : {t : Option ℕ} → j < n → t ≡ None → SlotSays fm s j b t → (life : ℕ) → ParentsSay fm s b life false
  sum_wrong h e f life r i =
      let off : every (linked fm s r) (slot_no fm j s ∷ drop (j + 1) (store_in fm s).slots) ≡ false = rw (subst (SlotSays fm s j b) e f r i) in
      sym (rw ((scan_here w.scan h r i).links ∙ off))

  pub sum_end : n ≤ j → (life : ℕ) → ParentsSay fm s b life (leb life sum)
  sum_end h life r i =
      let p = scan_end w.scan h r i in
      let t : total (lives fm s r) (store_in fm s).slots ≡ sum = omega (arith, p.life) in
      sym (rw (p.links, t))
