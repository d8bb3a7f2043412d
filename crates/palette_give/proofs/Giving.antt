-- What is given, by what was measured and how much room there is. Assumes nothing.
use Prim.Native.Nat.{ℕ, ◌-◌, ◌<◌, ◌≤◌}
use native.Mathlib.Omega.{arith}
use native.Mathlib.Nat.{zero-add}
use mathlib.Core.Path.{◌≡◌, refl, ap, sym, ◌∙◌}
use mathlib.Core.List.{List, ◌++◌}
use lib.ListN.{length, take, drop}
use borrow.Author.Tests.{lt-ltb, le-ltb}
use Rattle.terms.specs.Bits.{Bytes}
use Rattle.terms.specs.Records.{Proof}
use Rattle.meaning.specs.Calls.{Answer, refused, accepted}
use Rattle.fields.specs.Written.{written}
use Rattle.fields.proofs.Written.{part_written}
use Rattle.prove_paths.proofs.Records.{part_room}
use Rattle.palette_rules.specs.Palette.{length_together, fitted_together}
use Rattle.prove.specs.Parts.{proved_says}
use Rattle.std.specs.Prelude.{Result, Ok, Err}
use Rattle.refusal_numbers.specs.Refusals.{code}
use Rattle.refusal_numbers.specs.declared.ReadRefusal.{ReadRefusal}
use Rattle.refusal_numbers.specs.declared.ReadRefusal.TheVariants.{Plain}
use Rattle.refusal_numbers.specs.declared.Refusal.TheVariants.{NoRoom}
use Rattle.meaning.specs.Answers.{room_after}
use Rattle.contracts.specs.Palettes.{proofs_bytes}
use Rattle.palette_give.specs.Together.{together_length, together_bytes, Gives}

pub gives_refusal : {a : Answer (List Proof)} (r : ReadRefusal) (room : Bytes) → a ≡ refused (code r) → Gives a room room (Err r)
unfolding proved_says
gives_refusal r room e = record { answer = sym (ap together_length e); bytes = sym (ap (λ a. room_after proofs_bytes a room) e) }

pub gives_as : {a b : Answer (List Proof)} {room after : Bytes} {r : Result ℕ ReadRefusal} → a ≡ b → Gives a room after r → Gives b room after r
gives_as {room = room} e g = record { answer = g.answer ∙ ap together_length e; bytes = g.bytes ∙ ap (λ a. room_after proofs_bytes a room) e }

-- what is left of the room whose front was lent and came back as y
abbrev front : ℕ → Bytes → Bytes → Bytes
front len room y = take 0 room ++ (y ++ drop (len - 0) (drop 0 room))

front_filled : (len : ℕ) (room f : Bytes) → length f ≡ len → front len room f ≡ f ++ drop (length f) room
unfolding written
front_filled len room f l = part_written 0 len f room (zero-add (length f) ∙ l) ∙ ap (λ (n : ℕ). take 0 room ++ (f ++ drop n room)) (zero-add (length f))

-- the proofs of an answer of which the length of all together is known
measured_proofs : (a : Answer (List Proof)) (len : ℕ) → together_length a ≡ accepted len → (ps : List Proof) × (a ≡ accepted ps) × (length_together ps ≡ len)
measured_proofs (refused n) len e = let z : ◌≡◌ {A = ℕ} 0 1 = cc in absurd (omega arith)
measured_proofs (accepted ps) len e = let z : length_together ps ≡ len = cc in (ps, refl, z)

measured_refusal : (a : Answer (List Proof)) (n : ℕ) → refused n ≡ together_length a → a ≡ refused n
measured_refusal (refused m) n e = let z : m ≡ n = cc in ap refused z
measured_refusal (accepted ps) n e = let z : ◌≡◌ {A = ℕ} 0 1 = cc in absurd (omega arith)

-- the first refusal
pub single_refused : {m : Result ℕ ReadRefusal} (a : Answer (List Proof)) (room : Bytes) (r : ReadRefusal) → proved_says m ≡ together_length a → m ≡ Err r →
    Gives (fitted_together (length room) a) room room (Err r)
unfolding proved_says
single_refused a room r g h = gives_refusal r room (ap (fitted_together (length room)) (measured_refusal a (code r) (sym (ap proved_says h) ∙ g)))

module _ (a : Answer (List Proof)) (len : ℕ) (room : Bytes) (e : together_length a ≡ accepted len) where
  -- 9
  pub no_room : length room < len → Gives (fitted_together (length room) a) room room (Err (Plain NoRoom))
  no_room h =
      let m = measured_proofs a len e in
      gives_refusal (Plain NoRoom) room (ap (fitted_together (length room)) m.1 ∙ rw (lt-ltb (length room) (length_together m.0) (omega (arith, m.2))))

  pub front_long : len ≤ length room → together_length a ≡ accepted (length (take (len - 0) (drop 0 room)))
  front_long h = e ∙ ap accepted (sym (part_room 0 len len room (omega arith) h))

  pub with_room : (y : Bytes) → len ≤ length room → length y ≡ length (take (len - 0) (drop 0 room)) → y ≡ together_bytes a →
      Gives (fitted_together (length room) a) room (front len room y) (Ok len)
  unfolding proved_says
  with_room y h l f =
      let m = measured_proofs a len e in
      let fits : fitted_together (length room) a ≡ accepted m.0 =
      ap (fitted_together (length room)) m.1 ∙ rw (le-ltb (length room) (length_together m.0) (omega (arith, m.2)))
      in
      let its : y ≡ proofs_bytes m.0 = f ∙ ap together_bytes m.1 in
      let n : length (proofs_bytes m.0) ≡ len = ap length (sym its) ∙ l ∙ part_room 0 len len room (omega arith) h in
      record {
        answer = ap accepted (sym m.2) ∙ sym (ap together_length fits);
        bytes = ap (front len room) its ∙ front_filled len room (proofs_bytes m.0) n ∙ sym (ap (λ b. room_after proofs_bytes b room) fits);
      }

pub measured_length : {a : Answer ℕ} {m : Result ℕ ReadRefusal} (n : ℕ) → proved_says m ≡ a → m ≡ Ok n → a ≡ accepted n
unfolding proved_says
measured_length n g h = sym g ∙ ap proved_says h
