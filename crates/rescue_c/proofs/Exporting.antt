-- What the call for C leaves, by the cases of the answer; and 16 bytes written in four parts. Assumes nothing.
use Prim.Native.Nat.{ℕ}
use mathlib.Core.Path.{◌≡◌, ap, sym, ◌∙◌, subst}
use mathlib.Core.List.{[], ◌∷◌, ◌++◌, append-nil}
use lib.ListN.{length}
use Rattle.terms.specs.Bits.{Bytes}
use Rattle.terms.specs.Fields.{le}
use Rattle.terms.proofs.Fields.{length_le}
use Rattle.fields.specs.Written.{written}
use Rattle.fields.proofs.Written.{fields_fill}
use Rattle.meaning.specs.Answers.{exports_refusal, exports_answer}
use Rattle.rescue_bytes.specs.Rescues.{Rescues, report_bytes, RescueExports}
use Rattle.rescue.specs.Answer.{rescued_says}
use Rattle.rescue.specs.declared.Rescued as declared
use Rattle.std.specs.Prelude.{Result, Ok, Err}
use Rattle.refusal_numbers.specs.Refusals.{number}
use Rattle.refusal_numbers.specs.declared.Refusal.{Refusal}
use Rattle.rescue_count.specs.declared.Counts as declared-counts
use Rattle.rescue_c.specs.Export.{report_says}

-- four numbers of four bytes
pub report_put : (v : ℕ) (c : declared-counts.Counts) (f f₁ f₂ f₃ f₄ : Bytes) → length f ≡ 16 → f₁ ≡ written 0 (le 4 v) f → f₂ ≡ written 4 (le 4 c.same) f₁ →
    f₃ ≡ written 8 (le 4 c.other) f₂ → f₄ ≡ written 12 (le 4 c.out) f₃ → f₄ ≡ report_bytes (report_says v c)
unfolding report_bytes
report_put v c f f₁ f₂ f₃ f₄ l a b d e =
    e
    ∙ ap (written 12 (le 4 c.out)) (d ∙ ap (written 8 (le 4 c.other)) (b ∙ ap (written 4 (le 4 c.same)) a))
    ∙ fields_fill (4 ∷ 4 ∷ 4 ∷ 4 ∷ []) (le 4 v ∷ le 4 c.same ∷ le 4 c.other ∷ le 4 c.out ∷ []) f
    (length_le 4 v, (length_le 4 c.same, (length_le 4 c.other, (length_le 4 c.out, tt)))) (sym l)
    ∙ ap (λ z. le 4 v ++ (le 4 c.same ++ (le 4 c.other ++ z))) (append-nil (le 4 c.out))

module _ (oldest latest : ℕ) {s old t f : Bytes} {a : Result declared.Rescued Refusal} (o : Rescues oldest latest s old (rescued_says a) t) where
  pub export_refused : {r : Refusal} → a ≡ Err r → RescueExports oldest latest s old f (number r) t f
  export_refused e = exports_refusal (subst (λ q. Rescues oldest latest s old (rescued_says q) t) e o)

  pub export_kept : {k : declared.Rescued} {g : Bytes} → a ≡ Ok k → g ≡ report_bytes (report_says k.first k.counts) → RescueExports oldest latest s old f 0 t g
  export_kept e q = subst (RescueExports oldest latest s old f 0 t) (sym q) (exports_answer (subst (λ r. Rescues oldest latest s old (rescued_says r) t) e o))
