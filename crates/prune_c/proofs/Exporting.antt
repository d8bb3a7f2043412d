-- What the call for C leaves, by the cases of the answer: four bytes written over four bytes are all there is. Assumes nothing.
use Prim.Native.Nat.{ℕ}
use mathlib.Core.Path.{◌≡◌, sym, ◌∙◌, subst}
use lib.ListN.{length}
use Rattle.terms.specs.Bits.{Bytes}
use Rattle.terms.specs.Fields.{le}
use Rattle.fields.specs.Written.{written}
use Rattle.fields.proofs.Written.{number_fills}
use Rattle.prune_sound.specs.Prune.{pruned_says, PruneDoes}
use Rattle.std.specs.Prelude.{Result, Ok, Err}
use Rattle.refusal_numbers.specs.Refusals.{number}
use Rattle.refusal_numbers.specs.declared.Refusal.{Refusal}
use Rattle.meaning.specs.Answers.{exports_refusal, exports_answer}
use Rattle.contracts.specs.Prune.{PruneExports}

module _ (n : ℕ) {s f t : Bytes} {p : Result ℕ Refusal} (o : PruneDoes n s (pruned_says p) t) where
  pub export_refused : {r : Refusal} → p ≡ Err r → PruneExports n s f (number r) t f
  unfolding pruned_says
  export_refused e = exports_refusal (subst (λ q. PruneDoes n s (pruned_says q) t) e o)

  pub export_freed : {k : ℕ} {g : Bytes} → p ≡ Ok k → length f ≡ 4 → g ≡ written 0 (le 4 k) f → PruneExports n s f 0 t g
  unfolding pruned_says
  export_freed {k} {g} e l q =
      subst (PruneExports n s f 0 t) (sym (q ∙ number_fills k f l)) (exports_answer (subst (λ r. PruneDoes n s (pruned_says r) t) e o))
