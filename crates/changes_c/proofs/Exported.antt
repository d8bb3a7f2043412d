-- The number, the room and the four bytes, by the case of the answer. Assumes nothing.
use Prim.Native.Nat.{ℕ}
use mathlib.Core.Path.{◌≡◌, ap, sym, ◌∙◌}
use lib.ListN.{length}
use Rattle.terms.specs.Bits.{Bytes}
use Rattle.terms.specs.Fields.{le}
use Rattle.fields.specs.Written.{written}
use Rattle.fields.proofs.Written.{number_fills}
use Rattle.meaning.proofs.Told.{told_refused, told_given}
use Rattle.changes_kept.specs.Parts.{compared_says, Compares}
use Rattle.std.specs.Prelude.{Result, Ok, Err}
use Rattle.refusal_numbers.specs.Refusals.{number}
use Rattle.refusal_numbers.specs.declared.Refusal.{Refusal}
use Rattle.contracts.specs.Changes.{Changes}

module _ {first second limit : ℕ} {s room after : Bytes} (r : Result ℕ Refusal) (w : Compares first second limit s room (compared_says r) after)
    (old : Bytes) where
  pub changes_refused : {x : Refusal} → r ≡ Err x → Changes first second limit s room old (number x) after old
  changes_refused {x} e =
      record { answer = w.answer; does = w.does; exported = told_refused length w.answer (number x) old (sym (ap compared_says e) ∙ w.says); list = w.bytes }

  pub changes_listed : {n : ℕ} {new : Bytes} → r ≡ Ok n → length old ≡ 4 → new ≡ written 0 (le 4 n) old →
      Changes first second limit s room old 0 after new
  changes_listed {n} {new} e l x =
      record { answer = w.answer; does = w.does; exported = told_given length w.answer n old new (sym (ap compared_says e) ∙ w.says) (x ∙ number_fills n old l); list = w.bytes }
