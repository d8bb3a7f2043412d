-- An answer for a caller in another language, by its case: what is exported of an answer that is said, and a number of what a call gives, told in four
-- bytes. Assumes nothing.
use Prim.Native.Nat.{ℕ}
use native.Mathlib.Omega.{arith}
use mathlib.Core.Path.{◌≡◌, refl, ap, sym, ◌∙◌, subst}
use Rattle.terms.specs.Bits.{Bytes}
use Rattle.terms.specs.Fields.{le}
use Rattle.meaning.specs.Calls.{Answer, refused, accepted}
use Rattle.meaning.specs.Answers.{Exported, Exports, exports_refusal, exports_answer}
use Rattle.meaning.specs.Sized.{sized}

module _ {A : Type 0} {tell : A → Bytes} {f : Bytes} where
  -- What is exported of an answer is exported of its equal; and a refusal, which writes nothing.
  pub exported_as : {a b : Answer A} {r : ℕ} {g : Bytes} → a ≡ b → Exported a tell f r g → Exported b tell f r g
  exported_as {r = r} {g = g} e w = subst (λ x. Exported x tell f r g) e w

  pub exported_refusal : {a : Answer A} {n : ℕ} → refused n ≡ a → Exported a tell f n f
  exported_refusal e = exported_as e (record { number = refl; told = refl })

  pub exported_answer : {a : Answer A} {x : A} {g : Bytes} → accepted x ≡ a → g ≡ tell x → Exported a tell f 0 g
  exported_answer e w = exported_as e (record { number = refl; told = w })

  -- An accepted answer leaves what it tells, a refused one the array as it was; equal answers leave the same.
  pub exported_left : {a : Answer A} {x : A} {r : ℕ} {g : Bytes} → Exported a tell f r g → a ≡ accepted x → (r ≡ 0) × (g ≡ tell x)
  exported_left w e = let d = exported_as e w in (d.number, d.told)

  pub exported_kept : {a : Answer A} {r : ℕ} {g : Bytes} → Exported a tell f r g → (r ≡ 0 → ⊥) → g ≡ f
  exported_kept {a = refused n} w h = w.told
  exported_kept {a = accepted x} w h = absurd (h w.number)

  pub one_exported : {a b : Answer A} {m n : ℕ} {g h : Bytes} → a ≡ b → Exported a tell f m g → Exported b tell f n h → (m ≡ n) × (g ≡ h)
  one_exported e v w = let d = exported_as e v in (d.number ∙ sym w.number, d.told ∙ sym w.told)

-- An answer of which this is said, exported so.
pub record Seen {A : Type 0} (Said : Answer A → Type 0) (tell : A → Bytes) (f : Bytes) (r : ℕ) (g : Bytes) : Type 0 where
  pub answer : Answer A
  pub said : Said answer
  pub exported : Exported answer tell f r g

module _ {A : Type 0} {Said : Answer A → Type 0} {tell : A → Bytes} {f : Bytes} where
  pub seen : {r : ℕ} {g : Bytes} → Exports Said tell f r g → Seen Said tell f r g
  seen (exports_refusal {n} w) = record { answer = refused n; said = w; exported = exported_refusal refl }
  seen (exports_answer {a} w) = record { answer = accepted a; said = w; exported = exported_answer refl refl }

  pub exports : {r : ℕ} {g : Bytes} (a : Answer A) → Said a → Exported a tell f r g → Exports Said tell f r g
  exports (refused n) w e = rw (e.number, e.told) (exports_refusal w)
  exports (accepted a) w e = rw (e.number, e.told) (exports_answer w)

  -- A refused call writes nothing; and where one answer alone is said, one number and one array are left.
  pub exports_kept : {r : ℕ} {g : Bytes} → Exports Said tell f r g → (r ≡ 0 → ⊥) → g ≡ f
  exports_kept w h = exported_kept (seen w).exported h

  pub one_exports : ((a b : Answer A) → Said a → Said b → a ≡ b) → {m n : ℕ} {g h : Bytes} → Exports Said tell f m g → Exports Said tell f n h →
      (m ≡ n) × (g ≡ h)
  one_exports one v w =
      let x = seen v in
      let y = seen w in
      one_exported (one x.answer y.answer x.said y.said) x.exported y.exported

  pub exports_left : ((a b : Answer A) → Said a → Said b → a ≡ b) → {x : A} {r : ℕ} {g : Bytes} → Exports Said tell f r g → Said (accepted x) →
      (r ≡ 0) × (g ≡ tell x)
  exports_left one {x} w t = exported_left (seen w).exported (one (seen w).answer (accepted x) (seen w).said t)

module _ {A : Type 0} (size : A → ℕ) where
  pub told_refused : (a : Answer A) (n : ℕ) (old : Bytes) → refused n ≡ sized size a → Exported a (λ x. le 4 (size x)) old n old
  told_refused (refused m) n old e = record { number = cc; told = refl }
  told_refused (accepted x) n old e = let z : ◌≡◌ {A = ℕ} 0 1 = cc in absurd (omega arith)

  pub told_given : (a : Answer A) (n : ℕ) (old new : Bytes) → accepted n ≡ sized size a → new ≡ le 4 n → Exported a (λ x. le 4 (size x)) old 0 new
  told_given (refused m) n old new e f = let z : ◌≡◌ {A = ℕ} 0 1 = cc in absurd (omega arith)
  told_given (accepted x) n old new e f = let z : n ≡ size x = cc in record { number = refl; told = f ∙ ap (le 4) z }
