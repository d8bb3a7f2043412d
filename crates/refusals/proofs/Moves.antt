-- A move's number is that of its first row that holds: its cases are the rows. Assumes nothing.
use Prim.Native.Nat.{ℕ, ◌+◌, ◌*◌}
use mathlib.Core.Path.{◌≡◌, refl, ap, sym, ◌∙◌}
use mathlib.Core.Logic.{inl, inr}
use mathlib.Core.Bool.{true, cond}
use lib.ListN.{length}
use Rattle.terms.specs.declared.Form.{Form}
use Rattle.terms.specs.Bits.{Bytes}
use Rattle.terms.specs.Fields.{field}
use Rattle.layout.specs.Sizes.{slot_size, room_of}
use Rattle.layout.specs.Headers.{refusal, header, size_right, header_right, header_of}
use Rattle.layout.proofs.Headers.{room_of_lem, size_says, size_right_of, accepted}
use Rattle.move_rules.specs.Moves.{other, SameRoom, Moves, wrong_size, wrong_header, not_sound, moves}
use Rattle.move_rules.proofs.Outcomes.{not_headed}
use Rattle.refusals.specs.Tables.{move_rows}
use Rattle.refusals.proofs.Parts.{Row}
use Rattle.refusals.proofs.Exactly.{First}
use Rattle.refusals.proofs.Headers.{header_said, said_header}

module _ (from : Form) (s old : Bytes) where
  room_wrong : (SameRoom from (other from) s old → ⊥) → Row 1 (move_rows from s old)
  room_wrong f n a b (e, g) = f (record {
    source = size_right_of from (length s) n e a b;
    target = size_right_of (other from) (length old) n g a b;
    equal = room_of_lem from (length s) n e ∙ sym (room_of_lem (other from) (length old) n g);
  })

  room_right : SameRoom from (other from) s old → Row 1 (move_rows from s old) → ⊥
  room_right w f =
      let k = size_says from (length s) w.source in
      let l = size_says (other from) (length old) w.target in
      f (room_of from (length s)) k.1 k.2 (k.0, l.0 ∙ ap (λ n. 24 + slot_size (other from) * n) (sym w.equal))

  -- a header that was refused is wrong, one that was accepted isn't
  header_off : size_right from (length s) ≡ true → header_of from s ≡ refusal 2 → Row 2 (move_rows from s old)
  unfolding header_of
  header_off z e w =
      let said = header (field 8 4 s) (field 12 4 s) (field 16 4 s) in
      not_headed e
      (ap (λ b. cond b (cond (header_right from s) said (refusal 2)) (refusal 1)) z
      ∙ ap (λ b. cond b said (refusal 2)) (said_header from s z w))

  header_on : size_right from (length s) ≡ true → {c o l : ℕ} → header_of from s ≡ header c o l → Row 2 (move_rows from s old) → ⊥
  header_on z {c} {o} {l} e f = f (header_said from s z (accepted s c o l e).right)

  pub move_first : {r : ℕ} {t : Bytes} → Moves from s old r t → First (move_rows from s old) r
  move_first (wrong_size f) = inl (room_wrong f, refl)
  move_first (wrong_header w e) = inr (room_right w, inl (header_off w.source e, refl))
  move_first (not_sound w e f) = inr (room_right w, inr (header_on w.source e, inl (f, refl)))
  move_first (moves w e ok b) = inr (room_right w, inr (header_on w.source e, inr (λ f. f ok, refl)))
