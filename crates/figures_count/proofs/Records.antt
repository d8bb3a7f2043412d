-- The records of a range, of the slots from i on. Assumes nothing.
use Prim.Native.Nat.{ℕ, suc, ◌+◌, ◌-◌, ◌<◌, ◌≤◌}
use native.Mathlib.Omega.{arith}
use mathlib.Core.Path.{◌≡◌, refl, ap₂, sym, ◌∙◌, subst}
use mathlib.Core.Bool.{Bool, true, false, cond}
use mathlib.Core.List.{List}
use lib.ListN.{length, drop}
use Rattle.terms.specs.declared.Form.TheVariants.{Counted as counted}
use Rattle.terms.specs.Bits.{Bytes}
use Rattle.terms.specs.Records.{Slot}
use Rattle.layout.specs.Sizes.{room_of}
use Rattle.layout.specs.Stores.{store_of, slot_no}
use Rattle.quarter.specs.Living.{slot_lives, living_records}
use Rattle.quarter.proofs.Theorems.{slot_living}
use Rattle.figures_count.specs.Count.{Whole}
use Rattle.figures_count.proofs.Backward.{Backward, backward_start, backward_next, backward_end, backward_few}

-- the records of a range
pub record Living (first last records : ℕ) (xs : List Slot) : Type 0 where
  pub told : records ≡ living_records first last xs
  pub few : records ≤ length xs

pub living_start : {s : Bytes} {n : ℕ} (first last : ℕ) → Whole s → n ≡ room_of counted (length s) → Backward s (Living first last 0) n n
unfolding living_records
living_start first last w e = backward_start (Living first last 0) w e (record { told = refl; few = omega arith })

module _ {s : Bytes} {first last records : ℕ} {n i : ℕ} (w : Backward s (Living first last records) n i) where
  pub living_few : records ≤ 16384
  living_few = omega (arith, backward_few w, w.holds.few)

  living_next : (h : 0 < i) (b : Bool) → b ≡ slot_lives first last (slot_no counted (i - 1) s) → Backward s (Living first last (cond b 1 0 + records)) n (i - 1)
  living_next h b e =
      let t = w.holds in
      backward_next w h (Living first last (cond b 1 0 + records))
      (record {
        told = ap₂ (λ c m. cond c 1 0 + m) e t.told ∙ sym (slot_living first last (slot_no counted (i - 1) s) (drop i (store_of s).slots));
        few = at_most b t.few;
      })
    where
      at_most : (b : Bool) {m k : ℕ} → m ≤ k → cond b 1 0 + m ≤ suc k
      at_most true h = omega arith
      at_most false h = omega arith

  pub living_more : (h : 0 < i) {b : Bool} → b ≡ slot_lives first last (slot_no counted (i - 1) s) → b ≡ true → Backward s (Living first last (records + 1)) n (i - 1)
  living_more h e t = let k : 1 + records ≡ records + 1 = omega arith in subst (λ m. Backward s (Living first last m) n (i - 1)) k (living_next h true (sym t ∙ e))

  pub living_same : (h : 0 < i) {b : Bool} → b ≡ slot_lives first last (slot_no counted (i - 1) s) → b ≡ false → Backward s (Living first last records) n (i - 1)
  living_same h e t = let k : 0 + records ≡ records = omega arith in subst (λ m. Backward s (Living first last m) n (i - 1)) k (living_next h false (sym t ∙ e))

  pub living_end : i ≤ 0 → records ≡ living_records first last (store_of s).slots
  living_end h = (backward_end w h).told
