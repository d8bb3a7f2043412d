-- 40 bytes written in three parts; and what is sent, by the cases of the answer. Assumes nothing.
use Prim.Native.Nat.{ℕ, ◌-◌}
use native.Mathlib.Omega.{arith}
use mathlib.Core.Path.{◌≡◌, refl, ap, sym, ◌∙◌, subst}
use mathlib.Core.List.{[], ◌∷◌, ◌++◌, append-nil}
use lib.ListN.{length, take, drop, length-take, length-drop}
use Rattle.terms.specs.Bits.{Bytes}
use Rattle.terms.specs.Fields.{le}
use Rattle.terms.proofs.Fields.{length_le}
use Rattle.hash.specs.declared.Hash.{Hash}
use Rattle.hash.specs.Hash.{hash_bytes}
use Rattle.hash.proofs.Laws.{hash_whole, put_over}
use Rattle.fields.specs.Written.{written}
use Rattle.fields.proofs.Written.{length_written, part_written, fields_fill}
use Rattle.contracts.specs.Apply.{answer_bytes}
use Rattle.std.specs.Prelude.{Result, Ok, Err}
use Rattle.refusal_numbers.specs.Refusals.{number}
use Rattle.refusal_numbers.specs.declared.Refusal.{Refusal}
use Rattle.apply_answer.specs.declared.Applied as declared
use Rattle.apply_answer.specs.Answers.{applied_says}
use Rattle.apply_put.specs.Sent.{Sent}

-- four bytes, 32, and four
pub answer_put : (v n : ℕ) (h : Hash) (f f₁ y f₂ : Bytes) → length f ≡ 40 → f₁ ≡ written 0 (le 4 v) f →
    y ≡ hash_bytes h ++ drop 32 (take (36 - 4) (drop 4 f₁)) → f₂ ≡ written 36 (le 4 n) (take 4 f₁ ++ (y ++ drop (36 - 4) (drop 4 f₁))) →
    f₂ ≡ answer_bytes v (hash_bytes h) n
unfolding answer_bytes
answer_put v n h f f₁ y f₂ l e g k =
    let m : length f₁ ≡ 40 = ap length e ∙ length_written 0 (le 4 v) f (omega (arith, length_le 4 v)) ∙ l in
    let root : y ≡ hash_bytes h = put_over h (take (36 - 4) (drop 4 f₁)) y (simp (length-take, length-drop) (omega arith)) g in
    let mid : take 4 f₁ ++ (y ++ drop (36 - 4) (drop 4 f₁)) ≡ written 4 (hash_bytes h) f₁ =
    ap (λ z. take 4 f₁ ++ (z ++ drop (36 - 4) (drop 4 f₁))) root ∙ part_written 4 36 (hash_bytes h) f₁ (omega (arith, (hash_whole h).0)) in
    k ∙ ap (written 36 (le 4 n)) (mid ∙ ap (written 4 (hash_bytes h)) e)
    ∙ fields_fill (4 ∷ 32 ∷ 4 ∷ []) (le 4 v ∷ hash_bytes h ∷ le 4 n ∷ []) f (length_le 4 v, ((hash_whole h).0, (length_le 4 n, tt))) (sym l)
    ∙ ap (λ z. le 4 v ++ (hash_bytes h ++ z)) (append-nil (le 4 n))

-- by what the answer is
module _ (a : Result declared.Applied Refusal) (f : Bytes) where
  pub sent_refusal : {r : Refusal} → a ≡ Err r → Sent (applied_says a) f (number r) f
  unfolding applied_says
  sent_refusal {r} e = subst (λ q. Sent (applied_says q) f (number r) f) (sym e) (refl, refl)

  pub sent_made : {d : declared.Applied} {g : Bytes} → a ≡ Ok d → g ≡ answer_bytes d.version (hash_bytes d.root) d.count → Sent (applied_says a) f 0 g
  unfolding applied_says answer_bytes
  sent_made {g = g} e k = subst (λ q. Sent (applied_says q) f 0 g) (sym e) (refl, k)
