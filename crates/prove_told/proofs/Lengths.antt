-- The number and the four bytes, by the case of the answer; and what is told of a length, told of what has it. Assumes nothing.
use Prim.Native.Nat.{ℕ}
use mathlib.Core.Path.{◌≡◌, ap, sym, ◌∙◌}
use lib.ListN.{length}
use Rattle.std.specs.Prelude.{Result, Ok, Err}
use Rattle.terms.specs.Bits.{Bytes}
use Rattle.terms.specs.Fields.{le}
use Rattle.fields.specs.Written.{written}
use Rattle.fields.proofs.Written.{number_fills}
use Rattle.meaning.specs.Calls.{Answer, refused, accepted}
use Rattle.meaning.specs.Answers.{Exported}
use Rattle.meaning.specs.Sized.{sized}
use Rattle.meaning.proofs.Told.{exported_refusal, exported_answer}
use Rattle.refusal_numbers.specs.Refusals.{code, read_answer_of}
use Rattle.refusal_numbers.specs.declared.ReadRefusal.{ReadRefusal}

module _ {r : Result ℕ ReadRefusal} (old : Bytes) where
  pub length_refused : {n : ReadRefusal} → r ≡ Err n → Exported (read_answer_of (λ n. n) r) (λ n. le 4 n) old (code n) old
  length_refused e = exported_refusal (sym (ap (read_answer_of (λ n. n)) e))

  pub length_given : {n : ℕ} {new : Bytes} → r ≡ Ok n → length old ≡ 4 → new ≡ written 0 (le 4 n) old → Exported (read_answer_of (λ n. n) r) (λ n. le 4 n) old 0 new
  length_given {n} e l w = exported_answer (sym (ap (read_answer_of (λ n. n)) e)) (w ∙ number_fills n old l)

pub told_sized : {A : Type 0} (size : A → ℕ) (a : Answer A) {f g : Bytes} {r : ℕ} → Exported (sized size a) (λ n. le 4 n) f r g → Exported a (λ x. le 4 (size x)) f r g
told_sized size (refused n) w = record { number = w.number; told = w.told }
told_sized size (accepted x) w = record { number = w.number; told = w.told }
