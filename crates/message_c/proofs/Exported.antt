-- The number, the room and the four bytes, by the case of the answer. Assumes nothing.
use Prim.Native.Nat.{ℕ}
use mathlib.Core.Path.{◌≡◌, ap, sym, ◌∙◌}
use mathlib.Core.List.{[], ◌∷◌}
use lib.ListN.{length}
use Rattle.terms.specs.Bits.{Bytes, Byte, All}
use Rattle.terms.specs.Fields.{le}
use Rattle.fields.specs.Written.{written as filled}
use Rattle.fields.proofs.Written.{number_fills}
use Rattle.meaning.specs.Answers.{number_of, told_of, room_after}
use Rattle.meaning.proofs.Told.{told_refused, told_given}
use Rattle.proofrecords.specs.ProofBytes.{proof_in}
use Rattle.proofrecords.proofs.Proofs.{said_as_read}
use Rattle.messages.specs.Lending.{Lent, LentBytes}
use Rattle.message_rules.specs.Contracts.{written, WritesMessage}
use Rattle.message_rules.specs.Answers.{written_into}
use Rattle.message_rules.proofs.Ties.{number_of_message, room_of_message, told_of_message, writes_as}
use Rattle.std.specs.Prelude.{Result, Ok, Err}
use Rattle.refusal_numbers.specs.Refusals.{number}
use Rattle.refusal_numbers.specs.declared.Refusal.{Refusal}
use Rattle.message_write.specs.Wrote.{says, Writes}

-- the answer of the code, by the proof that is made
written_so : {x : Bytes} {lent : Lent} {room t old new : Bytes} {n : ℕ} → All Byte x → LentBytes lent → n ≡ number_of (written_into (proof_in x) lent room) →
    t ≡ room_after (λ m. m) (written_into (proof_in x) lent room) room → new ≡ told_of (λ m. le 4 (length m)) (written_into (proof_in x) lent room) old →
    WritesMessage x lent.asked (lent.first.key ∷ lent.first.value ∷ lent.second.key ∷ lent.second.value ∷ []) room old n t new
written_so {x} {lent} {room} {t} {old} bytes lends number left told =
    let k = writes_as x (proof_in x) lent room (said_as_read x bytes) lends in
    let a = written (proof_in x) k.raw room in record {
      said = proof_in x;
      exactly = said_as_read x bytes;
      raw = k.raw;
      lent = k.lends;
      exported = record {
        number = number ∙ ap (λ o. number_of o) k.same ∙ number_of_message a;
        told = told ∙ ap (λ o. told_of (λ m. le 4 (length m)) o old) k.same ∙ told_of_message a old;
      };
      message = left ∙ ap (λ o. room_after (λ m. m) o room) k.same ∙ room_of_message a room;
    }

module _ {x : Bytes} (bytes : All Byte x) {lent : Lent} (lends : LentBytes lent) {room t : Bytes} {r : Result ℕ Refusal} (w : Writes (written_into (proof_in x) lent room) room r t) (old : Bytes) where
  pub write_refused : {n : Refusal} → r ≡ Err n →
      WritesMessage x lent.asked (lent.first.key ∷ lent.first.value ∷ lent.second.key ∷ lent.second.value ∷ []) room old (number n) t old
  write_refused {n} e =
      let k = told_refused length (written_into (proof_in x) lent room) (number n) old (sym (ap says e) ∙ w.answer) in written_so bytes lends k.number w.bytes k.told

  pub write_given : {n : ℕ} {new : Bytes} → r ≡ Ok n → length old ≡ 4 → new ≡ filled 0 (le 4 n) old →
      WritesMessage x lent.asked (lent.first.key ∷ lent.first.value ∷ lent.second.key ∷ lent.second.value ∷ []) room old 0 t new
  write_given {n} {new} e l f =
      let k = told_given length (written_into (proof_in x) lent room) n old new (sym (ap says e) ∙ w.answer) (f ∙ number_fills n old l) in
      written_so bytes lends k.number w.bytes k.told
