-- A move that is refused by its tests is refused so; one that isn't has a sound source. Assumes nothing.
use Prim.Native.Nat.{ℕ}
use native.Mathlib.Omega.{arith}
use mathlib.Core.Path.{◌≡◌, refl, ap, sym, ◌∙◌, subst}
use Rattle.std.specs.Prelude.{Result, Ok, Err}
use Rattle.refusal_numbers.specs.Refusals.{number, number_told}
use Rattle.refusal_numbers.specs.declared.Refusal.{Refusal}
use Rattle.refusal_numbers.proofs.Numbers.{not_zero}
use mathlib.Core.Bool.{true, false, true≢false}
use lib.ListN.{length}
use Rattle.terms.specs.declared.Form.{Form}
use Rattle.terms.specs.Bits.{Bytes}
use Rattle.meaning.specs.Sound.{Sound}
use Rattle.nodehash.specs.Node.{leaf_hash, inner_hash}
use Rattle.layout.specs.Sizes.{room_of}
use Rattle.layout.specs.Headers.{refusal, header, header_of, size_right}
use Rattle.layout.specs.Stores.{store_in}
use Rattle.promises.specs.Check as check
use Rattle.promises.specs.Check.{Checked}
use Rattle.move_rules.specs.Moves.{other, SameRoom, Moves}
use Rattle.move_rules.specs.Moves as moves
use Rattle.move_rules.proofs.Outcomes.{size_passed}
use Rattle.move_open.specs.Open.{Opened, wrong_size, checked}

module _ (from to : Form) (s old : Bytes) where
  pub source_off : size_right from (length s) ≡ false → Opened from to s old 1
  source_off e = wrong_size (λ w. true≢false (sym w.source ∙ e))

  pub target_off : size_right to (length old) ≡ false → Opened from to s old 1
  target_off e = wrong_size (λ w. true≢false (sym w.target ∙ e))

  pub room_off : {a b : ℕ} → a ≡ room_of from (length s) → b ≡ room_of to (length old) → (a ≡ b → ⊥) → Opened from to s old 1
  room_off e f g = wrong_size (λ w. g (e ∙ w.equal ∙ sym f))

  pub room_same : {a b : ℕ} → size_right from (length s) ≡ true → size_right to (length old) ≡ true → a ≡ room_of from (length s) → b ≡ room_of to (length old) →
      a ≡ b → SameRoom from to s old
  room_same p q e f g = record { source = p; target = q; equal = sym e ∙ g ∙ f }

-- what is known of a move that isn't refused
pub record Passed (from : Form) (s old : Bytes) : Type 0 where
  pub room : SameRoom from (other from) s old
  pub capacity : ℕ
  pub oldest : ℕ
  pub latest : ℕ
  pub headed : header_of from s ≡ header capacity oldest latest
  pub sound : Sound leaf_hash inner_hash (store_in from s)

module _ {from : Form} {s old : Bytes} {r : ℕ} (w : Opened from (other from) s old r) where
  refuses_so : (r ≡ 0 → ⊥) → Moves from s old r old
  refuses_so f = go w f
    where
      go : {r : ℕ} → Opened from (other from) s old r → (r ≡ 0 → ⊥) → Moves from s old r old
      go (wrong_size g) f = moves.wrong_size g
      go (checked room (check.refused n e)) f =
          let two = size_passed from s room.source e in
          subst (λ m. Moves from s old m old) (sym two) (moves.wrong_header room (e ∙ ap refusal two))
      go (checked room (check.unsound n o l e g)) f = moves.not_sound room e g
      go (checked room (check.sound n o l e g)) f = absurd (f refl)

  passes : r ≡ 0 → Passed from s old
  passes e = go w e
    where
      go : {r : ℕ} → Opened from (other from) s old r → r ≡ 0 → Passed from s old
      go (wrong_size g) z = absurd (omega arith)
      go (checked room (check.refused n e)) z = absurd (omega (arith, size_passed from s room.source e))
      go (checked room (check.unsound n o l e g)) z = absurd (omega arith)
      go (checked room (check.sound n o l e g)) z = record { room = room; capacity = n; oldest = o; latest = l; headed = e; sound = g }

-- the same by what the tests answer
module _ {from : Form} {s old : Bytes} {x : Result (Unit {0}) Refusal} (w : Opened from (other from) s old (number_told x)) where
  pub move_refused : {r : Refusal} → x ≡ Err r → Moves from s old (number r) old
  move_refused {r} e = refuses_so (subst (λ y. Opened from (other from) s old (number_told y)) e w) (not_zero r)

  pub move_passed : {u : Unit {0}} → x ≡ Ok u → Passed from s old
  move_passed e = passes w (ap number_told e)
