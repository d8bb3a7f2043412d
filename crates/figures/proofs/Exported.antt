-- The number, the room and the eight bytes, by the case of the answer. Assumes nothing.
use Prim.Native.Nat.{ℕ}
use native.Mathlib.Omega.{arith}
use mathlib.Core.Path.{◌≡◌, refl, ap, ap₂, sym, ◌∙◌}
use mathlib.Core.List.{[], ◌∷◌, ◌++◌, append-nil}
use lib.ListN.{length}
use Rattle.terms.specs.Bits.{Bytes}
use Rattle.terms.specs.Fields.{le}
use Rattle.terms.proofs.Fields.{length_le}
use Rattle.fields.specs.Written.{written}
use Rattle.fields.proofs.Written.{fields_fill}
use Rattle.meaning.specs.Calls.{Answer, refused, accepted}
use Rattle.meaning.proofs.Told.{exported_refusal, exported_answer}
use Rattle.quarter.specs.Figures.{Quarter}
use Rattle.figures_sound.specs.Figures.{Totals, totals, figured_says, totals_of, Tells}
use Rattle.std.specs.Prelude.{Result, Ok, Err}
use Rattle.refusal_numbers.specs.Refusals.{number}
use Rattle.refusal_numbers.specs.declared.Refusal.{Refusal}
use Rattle.figures_sound.specs.declared.Totals as declared
use Rattle.contracts.specs.Figures.{Figures}

-- two numbers of four bytes
pub totals_put : (d n : ℕ) (f f₁ f₂ : Bytes) → length f ≡ 8 → f₁ ≡ written 0 (le 4 d) f → f₂ ≡ written 4 (le 4 n) f₁ → f₂ ≡ le 4 d ++ le 4 n
totals_put d n f f₁ f₂ l a b =
    b
    ∙ ap (written 4 (le 4 n)) a
    ∙ fields_fill (4 ∷ 4 ∷ []) (le 4 d ∷ le 4 n ∷ []) f (length_le 4 d, (length_le 4 n, tt)) (sym l)
    ∙ ap (λ z. le 4 d ++ z) (append-nil (le 4 n))

same_totals : {x y : Totals} → ◌≡◌ {A = Answer Totals} (accepted x) (accepted y) → x ≡ y
same_totals e = cc

module _ {first last : ℕ} {s room after : Bytes} {r : Result declared.Totals Refusal} (w : Tells first last s room (figured_says r) after) (old : Bytes) where
  pub figures_refused : {x : Refusal} → r ≡ Err x → Figures first last s room old (number x) after old
  figures_refused {x} e = go w.answer refl (sym (ap figured_says e) ∙ w.says)
    where
      go : (a : Answer Quarter) → w.answer ≡ a → refused (number x) ≡ totals_of a → Figures first last s room old (number x) after old
      go (refused m) f g =
          let same : number x ≡ m = cc in record {
            answer = w.answer;
            does = w.does;
            exported = exported_refusal (ap refused same ∙ sym f);
            numbers = w.bytes;
          }
      go (accepted q) f g = let z : ◌≡◌ {A = ℕ} 0 1 = cc in absurd (omega arith)

  pub figures_told : {t : declared.Totals} {new : Bytes} → r ≡ Ok t → new ≡ le 4 t.distinct ++ le 4 t.records → Figures first last s room old 0 after new
  figures_told {t} {new} e x = go w.answer refl (sym (ap figured_says e) ∙ w.says)
    where
      go : (a : Answer Quarter) → w.answer ≡ a → accepted (totals t.distinct t.records) ≡ totals_of a → Figures first last s room old 0 after new
      go (refused m) f g = let z : ◌≡◌ {A = ℕ} 0 1 = cc in absurd (omega arith)
      go (accepted q) f g =
          let same = same_totals g in
          let d-is = ap (λ (u : Totals). u.distinct) same in
          let n_is = ap (λ (u : Totals). u.records) same in
          record {
            answer = w.answer;
            does = w.does;
            exported = exported_answer (sym f) (x ∙ ap₂ (λ y z. le 4 y ++ le 4 z) d-is n_is);
            numbers = w.bytes;
          }
