-- The answers as they are written, one after the other. Assumes nothing.
use Prim.Native.Nat.{ℕ, ◌+◌, ◌*◌, ◌-◌, ◌<◌, ◌≤◌}
use native.Mathlib.Omega.{arith}
use native.Mathlib.Nat.{sub-zero}
use native.Mathlib.Numerals.{add-one}
use mathlib.Core.Path.{◌≡◌, refl, ap, ap₂, sym, ◌∙◌}
use mathlib.Core.Bool.{true}
use mathlib.Core.List.{List, [], ◌∷◌, ◌++◌, append_assoc, append-nil}
use lib.ListN.{length, take, drop, length-take, length-drop, length-append, take-append-drop}
use lib.Seq.{take_at, drop_at, drop-drop}
use Rattle.terms.specs.Bits.{Bytes}
use Rattle.palette_rules.specs.Palette.{keys_from}
use Rattle.verify_rules.specs.Reading.{verified}
use Rattle.verify_rows.specs.Rows.{answer_bytes}
use Rattle.verify_rows.specs.Reading.{own_length, begins, cuts_into, pieces, start_of, piece_at, answers_of}
use Rattle.verify_rows.proofs.Rows.{begins_room, cut_begins, cut_rest, answers_on, answers_end}

-- The first i answers are written, and the rest is as it was.
pub record Written (root keys p old : Bytes) (n : ℕ) (out : Bytes) (a i : ℕ) : Type 0 where
  pub upto : i ≤ n
  pub start : a ≡ start_of p i
  pub within : a ≤ length p
  pub cut : cuts_into (n - i) (drop a p) ≡ true
  pub same : length out ≡ length old
  pub front : take (34 * i) out ++ answers_of root (keys_from (n - i) (drop (32 * i) keys)) (pieces (n - i) (drop a p)) ≡ answers_of root (keys_from n keys) (pieces n p)
  pub rest : drop (34 * i) out ≡ drop (34 * i) old

pub written_none : (root keys p old : Bytes) (n : ℕ) → cuts_into n p ≡ true → Written root keys p old n old 0 0
written_none root keys p old n e = record {
  upto = omega arith;
  start = refl;
  within = omega arith;
  cut = rw sub-zero e;
  same = refl;
  front = rw sub-zero;
  rest = refl;
}

pub key_part_lem : (ks : Bytes) (i : ℕ) → take (32 * i + 32 - 32 * i) (drop (32 * i) ks) ≡ take 32 (drop (32 * i) ks)
key_part_lem ks i = let e : 32 * i + 32 - 32 * i ≡ 32 = omega arith in ap (λ (k : ℕ). take k (drop (32 * i) ks)) e

module _ (root keys p old : Bytes) (n : ℕ) (out : Bytes) (a i : ℕ) (w : Written root keys p old n out a i) (h : i < n) where
  pub written_begins : begins (drop a p) ≡ true
  written_begins = cut_begins n i a p h w.cut

  module _ (room : 34 * n ≤ length old) (ys : Bytes) (new : Bytes) (e : ys ≡ answer_bytes (verified root (take 32 (drop (32 * i) keys)) (piece_at p a)))
      (long : length ys ≡ 34) (is : new ≡ take (34 * i) out ++ (ys ++ drop (34 * i + 34 - 34 * i) (drop (34 * i) out))) where
    head_long : length (take (34 * i) out ++ ys) ≡ 34 * (i + 1)
    head_long = let s = w.same in simp length-append (omega (arith, length-take (34 * i) out))

    new_is : new ≡ (take (34 * i) out ++ ys) ++ drop 34 (drop (34 * i) out)
    new_is =
        let k : 34 * i + 34 - 34 * i ≡ 34 = omega arith in
        is ∙ ap (λ (m : ℕ). take (34 * i) out ++ (ys ++ drop m (drop (34 * i) out))) k ∙ sym (append_assoc (take (34 * i) out) ys (drop 34 (drop (34 * i) out)))

    head_is_lem : take (34 * (i + 1)) new ≡ take (34 * i) out ++ ys
    head_is_lem = ap (take (34 * (i + 1))) new_is ∙ take_at (take (34 * i) out ++ ys) (drop 34 (drop (34 * i) out)) (34 * (i + 1)) head_long

    rest_is : drop (34 * (i + 1)) new ≡ drop (34 * (i + 1)) old
    rest_is =
        let k : 34 * i + 34 ≡ 34 * (i + 1) = omega arith in
        ap (drop (34 * (i + 1))) new_is
        ∙ drop_at (take (34 * i) out ++ ys) (drop 34 (drop (34 * i) out)) (34 * (i + 1)) head_long
        ∙ ap (drop 34) w.rest
        ∙ drop-drop 34 (34 * i) old
        ∙ ap (λ (m : ℕ). drop m old) k

    long_as_before : length new ≡ length out
    long_as_before =
        let s = w.same in
        ap length new_is
        ∙ length-append (take (34 * i) out ++ ys) (drop 34 (drop (34 * i) out))
        ∙ omega (arith, head_long, length-drop 34 (drop (34 * i) out), length-drop (34 * i) out)

    pub written_more : Written root keys p old n new (a + own_length (drop a p)) (i + 1)
    written_more =
        let r = begins_room (drop a p) written_begins in
        let after = answers_of root (keys_from (n - (i + 1)) (drop (32 * (i + 1)) keys)) (pieces (n - (i + 1)) (drop (a + own_length (drop a p)) p)) in
        record {
          upto = omega arith;
          start = rw (add-one i, ← w.start);
          within = omega (arith, length-drop a p);
          cut = cut_rest n i a p h w.cut;
          same = long_as_before ∙ w.same;
          front =
              ap (◌++ after) head_is_lem
              ∙ append_assoc (take (34 * i) out) ys after
              ∙ ap (take (34 * i) out ++◌) (ap (◌++ after) e ∙ sym (answers_on n i a p h root keys))
              ∙ w.front;
          rest = rest_is;
        }

pub written_all : (root keys p old : Bytes) (n : ℕ) (out : Bytes) (a i : ℕ) → Written root keys p old n out a i → n ≤ i →
    out ≡ answers_of root (keys_from n keys) (pieces n p) ++ drop (34 * n) old
written_all root keys p old n out a i w h =
    let u = w.upto in
    let e : i ≡ n = omega arith in
    let f : take (34 * i) out ≡ answers_of root (keys_from n keys) (pieces n p) =
    sym (ap (take (34 * i) out ++◌) (answers_end root (drop (32 * i) keys) n i (drop a p) h) ∙ append-nil (take (34 * i) out)) ∙ w.front in
    sym (take-append-drop (34 * i) out) ∙ ap₂ ◌++◌ f w.rest ∙ ap (λ (m : ℕ). answers_of root (keys_from n keys) (pieces n p) ++ drop (34 * m) old) e

pub part_long : (i n : ℕ) (out old : Bytes) → i < n → 34 * n ≤ length old → length out ≡ length old → length (take (34 * i + 34 - 34 * i) (drop (34 * i) out)) ≡ 34
part_long i n out old h room same = simp (length-take, length-drop) (omega arith)
