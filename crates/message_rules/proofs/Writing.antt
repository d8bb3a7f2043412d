-- Bytes written one after the other into a room. Assumes nothing.
use Prim.Native.Nat.{ℕ, suc, ◌+◌, ◌-◌, ◌<◌, ◌≤◌}
use native.Mathlib.Omega.{arith}
use native.Mathlib.Nat.{add-zero}
use mathlib.Core.Path.{◌≡◌, refl, ap, sym, ◌∙◌}
use mathlib.Core.List.{[], ◌∷◌, ◌++◌, append_assoc, append-nil}
use lib.ListN.{length, take, drop, set, length-append, take-append-drop}
use lib.Seq.{sets-eq}
use Rattle.terms.specs.Bits.{Bytes}
use Rattle.fields.specs.Written.{written}
use Rattle.fields.proofs.Written.{length_written, fields_written_lem, part_written}
use Rattle.message_rules.specs.Puts.{Puts}

-- one byte stored
pub set_one : (s : Bytes) (i v : ℕ) → i < length s → set s i v ≡ written i (v ∷ []) s
unfolding written
set_one s i v h = sets-eq (v ∷ []) s i (omega arith) ∙ append_assoc (take i s) (v ∷ []) (drop (i + 1) s)

-- nothing written
pub written_none : (i : ℕ) (s : Bytes) → s ≡ written i [] s
unfolding written
written_none i s = rw (add-zero i) (sym (take-append-drop i s))

-- one after the other
pub written_then : (i j : ℕ) (f g s : Bytes) → j ≡ i + length f → j + length g ≤ length s → written j g (written i f s) ≡ written i (f ++ g) s
written_then i j f g s e h =
    ap (λ k. written k g (written i f s)) e
    ∙ fields_written_lem (length f ∷ length g ∷ []) i (f ∷ g ∷ []) s (refl, (refl, tt)) (omega arith)
    ∙ ap (λ u. written i (f ++ u) s) (append-nil g)

-- the front of a room
pub written_front : (f s : Bytes) → written 0 f s ≡ f ++ drop (length f) s
unfolding written
written_front f s = let e : 0 + length f ≡ length f = omega arith in rw e

pub puts_none : (at : ℕ) (s : Bytes) → Puts at [] s s at
puts_none at s = record { bytes_are = written_none at s; next_is = omega arith }

pub puts_length : {at next : ℕ} {f s t : Bytes} → Puts at f s t next → at + length f ≤ length s → length t ≡ length s
puts_length {at} {next} {f} {s} p h = ap length p.bytes_are ∙ length_written at f s h

pub puts_then : {at b c : ℕ} {f g s t u : Bytes} → Puts at f s t b → Puts b g t u c → at + (length f + length g) ≤ length s → Puts at (f ++ g) s u c
puts_then {at} {b} {c} {f} {g} {s} {t} {u} p q h =
    let e = p.next_is in record {
      bytes_are = q.bytes_are ∙ ap (written b g) p.bytes_are ∙ written_then at b f g s e (omega arith);
      next_is = omega (arith, q.next_is, length-append f g);
    }

-- a part of the room that was filled
pub puts_part : (at end : ℕ) (f s : Bytes) → end ≡ at + length f → Puts at f s (take at s ++ (f ++ drop (end - at) (drop at s))) end
puts_part at end f s e = record { bytes_are = part_written at end f s (sym e); next_is = e }
