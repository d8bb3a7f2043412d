-- What a refusal by the number or by the room tells of them. Assumes nothing.
use Prim.Native.Nat.{ℕ, ◌<◌, ◌≤◌}
use native.Mathlib.Omega.{arith}
use mathlib.Core.Path.{◌≡◌, refl, sym, ◌∙◌}
use mathlib.Core.Bool.{Bool, true, false, cond}
use lib.Dec.{ltb}
use borrow.Author.Tests.{ltb-true, ltb-false}
use Rattle.apply_answer.specs.Answers.{number_refusal, room_refusal}

module _ (number latest : ℕ) {r : ℕ} (e : r ≡ number_refusal number latest) where
  pub not_above_lem : (r ≡ 0 → ⊥) → (r ≡ 18) × (number ≤ latest)
  not_above_lem n = go (ltb latest number) refl e
    where
      go : (b : Bool) → ltb latest number ≡ b → r ≡ cond b 0 18 → (r ≡ 18) × (number ≤ latest)
      go true t f = absurd (n f)
      go false t f = (f, ltb-false latest number t)

  pub is_above : r ≡ 0 → latest < number
  is_above z = go (ltb latest number) refl e
    where
      go : (b : Bool) → ltb latest number ≡ b → r ≡ cond b 0 18 → latest < number
      go true t f = ltb-true latest number t
      go false t f = let q : ◌≡◌ {A = ℕ} 0 18 = sym z ∙ f in absurd (omega arith)

module _ (free records : ℕ) {r : ℕ} (e : r ≡ room_refusal free records) where
  pub short_of_room : (r ≡ 0 → ⊥) → (r ≡ 7) × (free < records)
  short_of_room n = go (ltb free records) refl e
    where
      go : (b : Bool) → ltb free records ≡ b → r ≡ cond b 7 0 → (r ≡ 7) × (free < records)
      go true t f = (f, ltb-true free records t)
      go false t f = absurd (n f)

  pub has_room : r ≡ 0 → records ≤ free
  has_room z = go (ltb free records) refl e
    where
      go : (b : Bool) → ltb free records ≡ b → r ≡ cond b 7 0 → records ≤ free
      go true t f = let q : ◌≡◌ {A = ℕ} 0 7 = sym z ∙ f in absurd (omega arith)
      go false t f = ltb-false free records t
