-- Writing the steps of a path: a side and a hash fill the bytes of a step, and the steps go from the end of the path upwards. Assumes nothing.
use Prim.Native.Nat.{ℕ, zero, suc, ◌+◌, ◌*◌, ◌-◌, ◌<◌, ◌≤◌}
use native.Mathlib.Omega.{arith}
use native.Mathlib.Numerals.{unary_clauses}
use mathlib.Core.Path.{◌≡◌, refl, ap, ap₂, sym, ◌∙◌}
use mathlib.Core.Bool.{not}
use mathlib.Core.List.{List, [], ◌∷◌, ◌++◌, append_assoc, append-nil}
use lib.ListN.{length, get_or, take, drop, set, drop_of_length-le, length-append, length-take, length-drop}
use lib.Seq.{take_all, take_at, get_or-take}
use Rattle.terms.specs.declared.Form.TheVariants.{Counted as counted}
use Rattle.terms.specs.Bits.{Bytes, Side, left, bits, bit, digit}
use Rattle.terms.specs.Records.{Child}
use Rattle.layout.specs.Stores.{slot_in}
use Rattle.proofrecords.specs.ProofBytes.{steps_bytes}
use Rattle.layout.specs.Slots.{kid_on}
use Rattle.read_step.specs.Walk.{kid_in}
use Rattle.read_step.proofs.Seeing.{kid_is}
use Rattle.prove_paths.specs.Paths.{step_bytes, step_at, steps_of}
use Rattle.prove_paths.proofs.Records.{given}

-- a side and a hash fill the 33 bytes of a step
pub step_put : {x h y : Bytes} {d : ℕ} (part s : Bytes) (i : ℕ) (b : Side) → length part ≡ 33 → d ≡ digit b → x ≡ slot_in counted i s → h ≡ (kid_on (not b) x).hash →
    y ≡ h → set (given 1 33 part y) 0 d ≡ step_bytes (step_at s i b)
unfolding step_bytes step_at kid_in
step_put [] s i b l e f g k = absurd (omega arith)
step_put {x} {h} {y} {d} (z ∷ part) s i b l e f g k =
    ap₂ ◌∷◌ e (ap (y ++◌) (drop_of_length-le part {i = 32} (omega arith)) ∙ append-nil y ∙ k ∙ g ∙ ap (λ u. (kid_on (not b) u).hash) f ∙ ap (λ (c : Child). c.hash) (kid_is (not b) (slot_in counted i s)))

-- the part of a path's steps, of which those below depth are written, up to start
pub record Steps (s : Bytes) (slots : List ℕ) (b : Bytes) (n : ℕ) (part : Bytes) (depth start : ℕ) : Type 0 where
  pub within : depth ≤ n
  pub here : start + 33 * depth ≡ 33 * n
  pub long : length part ≡ 33 * n
  pub whole : steps_bytes (steps_of s slots (take n (bits b)) n) ≡ take start part ++ steps_bytes (steps_of s slots (take n (bits b)) depth)

pub steps_start : (s : Bytes) (slots : List ℕ) (b : Bytes) (n : ℕ) (part : Bytes) → length part ≡ 33 * n → Steps s slots b n part n 0
steps_start s slots b n part l = record { within = omega arith; here = omega arith; long = l; whole = refl }

module _ {s : Bytes} {slots : List ℕ} {b : Bytes} {n : ℕ} {part : Bytes} {start : ℕ} where
  steps_on : (depth : ℕ) (y : Bytes) → Steps s slots b n part (suc depth) start → length y ≡ 33 → y ≡ step_bytes (step_at s (get_or slots depth 0) (bit depth b)) →
      Steps s slots b n (given start (start + 33) part y) depth (start + 33)
  unfolding bit step_bytes
  steps_on depth y w l e =
      let h = w.here in
      let k : start + 33 ≤ length part = omega (arith, w.within, w.long) in
      let g : length (take start part ++ y) ≡ start + 33 = simp (length-append, length-take) (omega arith) in
      let t : take (start + 33) (given start (start + 33) part y) ≡ take start part ++ y =
      ap (take (start + 33)) (sym (append_assoc (take start part) y (drop (start + 33 - start) (drop start part))))
      ∙ take_at (take start part ++ y) (drop (start + 33 - start) (drop start part)) (start + 33) g
      in
      let rest = steps_bytes (steps_of s slots (take n (bits b)) depth) in
      record {
        within = omega (arith, w.within);
        here = omega arith;
        long = simp (length-append, length-take, length-drop) (omega (arith, w.long));
        whole =
            w.whole
            ∙ ap (λ (c : Side). take start part ++ (step_bytes (step_at s (get_or slots depth 0) c) ++ rest)) (get_or-take n (bits b) depth left (omega (arith, w.within)))
            ∙ ap (λ u. take start part ++ (u ++ rest)) (sym e)
            ∙ sym (append_assoc (take start part) y rest)
            ∙ ap (◌++ rest) (sym t);
      }

  pub steps_next : {side : Side} (depth : ℕ) (y : Bytes) → Steps s slots b n part depth start → 0 < depth → length y ≡ 33 → side ≡ bit (depth - 1) b →
      y ≡ step_bytes (step_at s (get_or slots (depth - 1) 0) side) → Steps s slots b n (given start (start + 33) part y) (depth - 1) (start + 33)
  steps_next zero y w h l e f = absurd (omega arith)
  steps_next (suc depth) y w h l e f =
      let g = f ∙ ap (λ (c : Side). step_bytes (step_at s (get_or slots (suc depth - 1) 0) c)) e in
      simp unary_clauses (steps_on depth y w l (simp unary_clauses at g))

  pub steps_done : (depth : ℕ) → Steps s slots b n part depth start → depth ≤ 0 → part ≡ steps_bytes (steps_of s slots (take n (bits b)) n)
  steps_done zero w h =
      sym (w.whole ∙ append-nil (take start part) ∙ take_all start part (omega (arith, w.here, w.long)))
  steps_done (suc depth) w h = absurd (omega arith)
