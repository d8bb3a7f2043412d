-- A planned proof is given where there is room: it fills the front, as long as its bytes are, and the rest stays; else 9. Assumes nothing.
use Prim.Native.Nat.{ℕ, ◌-◌, ◌<◌, ◌≤◌}
use native.Mathlib.Omega.{arith}
use native.Mathlib.Nat.{zero-add}
use mathlib.Core.Path.{◌≡◌, ap, sym, ◌∙◌, subst}
use mathlib.Core.List.{◌++◌}
use lib.ListN.{length, take, drop}
use borrow.Author.Tests.{lt-ltb, le-ltb}
use Rattle.terms.specs.Bits.{Bytes}
use Rattle.terms.specs.Records.{Proof}
use Rattle.meaning.specs.Calls.{Answer, refused, accepted}
use Rattle.meaning.specs.Proving.{proof_length, fitted}
use Rattle.fields.specs.Written.{written}
use Rattle.fields.proofs.Written.{part_written}
use Rattle.proofrecords.specs.ProofBytes.{proof_bytes}
use Rattle.prove_paths.proofs.Records.{part_room}
use Rattle.prove_write.specs.Written.{planned_length, planned_bytes}
use Rattle.meaning.specs.Answers.{room_after}
use Rattle.prove.specs.Parts.{length_answer, proved_says, Gives}
use Rattle.std.specs.Prelude.{Result, Ok, Err}
use Rattle.refusal_numbers.specs.Refusals.{code}
use Rattle.refusal_numbers.specs.declared.ReadRefusal.{ReadRefusal}
use Rattle.refusal_numbers.specs.declared.ReadRefusal.TheVariants.{Plain}
use Rattle.refusal_numbers.specs.declared.Refusal.TheVariants.{NoRoom}

-- what is left of the room whose front was lent and came back as y
abbrev front : ℕ → Bytes → Bytes → Bytes
front len room y = take 0 room ++ (y ++ drop (len - 0) (drop 0 room))

front_filled : (len : ℕ) (room f : Bytes) → length f ≡ len → front len room f ≡ f ++ drop (length f) room
unfolding written
front_filled len room f l = part_written 0 len f room (zero-add (length f) ∙ l) ∙ ap (λ (n : ℕ). take 0 room ++ (f ++ drop n room)) (zero-add (length f))

-- a refusal
pub gives_refusal : {a : Answer Proof} (r : ReadRefusal) (room : Bytes) → a ≡ refused (code r) → Gives a room room (Err r)
unfolding proved_says
gives_refusal r room e = record { answer = sym (ap length_answer e); bytes = sym (ap (λ a. room_after proof_bytes a room) e) }

pub planned_refusal : {a : Answer Proof} (r : ReadRefusal) (room : Bytes) → a ≡ refused (code r) → Gives (fitted (length room) a) room room (Err r)
planned_refusal r room e = gives_refusal r room (ap (fitted (length room)) e)

module _ {len : ℕ} {a : Answer Proof} (room : Bytes) (p : Proof) (says : a ≡ accepted p) (e : len ≡ proof_length p) where
  pub no_room : length room < len → Gives (fitted (length room) a) room room (Err (Plain NoRoom))
  no_room h = gives_refusal (Plain NoRoom) room (ap (fitted (length room)) says ∙ rw (lt-ltb (length room) (proof_length p) (omega arith)))

  -- the part that is lent is as long as the proof
  pub part_long : len ≤ length room → length (take (len - 0) (drop 0 room)) ≡ planned_length a
  part_long h = part_room 0 len len room (omega arith) h ∙ e ∙ sym (ap planned_length says)

  pub with_room : (y : Bytes) → len ≤ length room → length y ≡ length (take (len - 0) (drop 0 room)) → y ≡ planned_bytes a →
      Gives (fitted (length room) a) room (front len room y) (Ok len)
  unfolding proved_says
  with_room y h l f =
      let fits : fitted (length room) a ≡ accepted p =
      ap (fitted (length room)) says ∙ rw (le-ltb (length room) (proof_length p) (omega arith))
      in
      let its : y ≡ proof_bytes p = f ∙ ap planned_bytes says in
      let n : length (proof_bytes p) ≡ len = ap length (sym its) ∙ l ∙ part_room 0 len len room (omega arith) h in
      record {
        answer = ap accepted e ∙ sym (ap length_answer fits);
        bytes = ap (front len room) its ∙ front_filled len room (proof_bytes p) n ∙ sym (ap (λ a. room_after proof_bytes a room) fits);
      }
