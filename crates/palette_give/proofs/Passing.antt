-- The first pass: a key a turn, the lengths so far added up, or the first refusal. Assumes nothing.
use Prim.Native.Nat.{ℕ, zero, suc, ◌+◌, ◌*◌, ◌-◌, ◌<◌, ◌≤◌, ◌/◌}
use native.Mathlib.Omega.{arith}
use native.Mathlib.Nat.{add-zero, zero-add}
use mathlib.Core.Path.{◌≡◌, refl, ap, ap₂, sym, ◌∙◌}
use mathlib.Core.Bool.{true}
use mathlib.Core.List.{List, ◌++◌}
use lib.ListN.{length, take, drop, length-append}
use lib.Seq.{take_at, drop_at}
use Rattle.terms.specs.Bits.{Bytes}
use Rattle.terms.specs.Records.{Proof}
use Rattle.meaning.specs.Calls.{Answer, refused, accepted}
use Rattle.meaning.specs.Proving.{proof_length}
use Rattle.palette_rules.specs.Palette.{whole_keys, keys_from, keys_in, followed, in_turn}
use Rattle.palette_rules.proofs.Keys.{whole_list}
use Rattle.palette_give.specs.Together.{together_length}

-- the answers for the keys that are left
abbrev pub answers_from : (Bytes → Answer Proof) → ℕ → Bytes → Answer (List Proof)
answers_from f n rest = in_turn f (keys_from n rest)

-- so many keys are left
pub record Left (n : ℕ) (rest : Bytes) : Type 0 where
  pub here : length rest ≡ 32 * n
  pub short : n ≤ 256

pub left_start : (ks : Bytes) → whole_keys ks ≡ true → Left (length ks / 32) ks
left_start ks e = let w = whole_list ks e in let a = w.whole in let b = w.few in record { here = omega arith; short = omega arith }

-- one key more, and those after it
pub record Turn (f : Bytes → Answer Proof) (n : ℕ) (rest key later : Bytes) : Type 0 where
  pub less : ℕ
  pub left : Left less later
  pub one : n ≡ less + 1
  pub answers : answers_from f n rest ≡ followed (f key) (answers_from f less later)

pub turn : (f : Bytes → Answer Proof) (n : ℕ) (rest key later : Bytes) → Left n rest → rest ≡ key ++ later → length key ≡ 32 → Turn f n rest key later
turn f zero rest key later w e l = absurd (omega (arith, w.here, ap length e, length-append key later, l))
turn f (suc n) rest key later w e l =
    let here : length later ≡ 32 * n = omega (arith, w.here, ap length e, length-append key later, l) in
    let less : n ≤ 256 = omega (arith, w.short) in
    record {
      less = n;
      left = record { here = here; short = less };
      one = omega arith;
      answers =
          ap (λ x. followed (f (take 32 x)) (in_turn f (keys_from n (drop 32 x)))) e
          ∙ ap₂ (λ k x. followed (f k) (in_turn f (keys_from n x))) (take_at key later 32 l) (drop_at key later 32 l);
    }

pub none_left : {n : ℕ} {rest : Bytes} → Left n rest → length rest < 32 → n ≡ 0
none_left w h = omega (arith, w.here)

-- lengths so far, and those to come
abbrev more : ℕ → Answer ℕ → Answer ℕ
more m (refused n) = refused n
more m (accepted l) = accepted (m + l)

more_none : (a : Answer ℕ) → a ≡ more 0 a
more_none (refused n) = refl
more_none (accepted l) = ap accepted (sym (zero-add l))

more_next : {len : ℕ} (m : ℕ) (p : Proof) (a : Answer (List Proof)) → len ≡ proof_length p →
    more m (together_length (followed (accepted p) a)) ≡ more (m + len) (together_length a)
more_next m p (refused n) e = refl
more_next m p (accepted ps) e = ap accepted (omega arith)

-- the keys that are left, where the proofs of those before have so many bytes
pub record Measuring (f : Bytes → Answer Proof) (ks : Bytes) (total : ℕ) (rest : Bytes) : Type 0 where
  pub count : ℕ
  pub left : Left count rest
  pub sums : together_length (in_turn f (keys_in ks)) ≡ more total (together_length (answers_from f count rest))
  pub few : total + 17080 * count ≤ 4372480

pub measuring_starts : (f : Bytes → Answer Proof) (ks : Bytes) → whole_keys ks ≡ true → Measuring f ks 0 ks
unfolding keys_in
measuring_starts f ks e = record {
  count = length ks / 32;
  left = left_start ks e;
  sums = more_none (together_length (in_turn f (keys_from (length ks / 32) ks)));
  few = omega (arith, (left_start ks e).short);
}

module _ {f : Bytes → Answer Proof} {ks : Bytes} {total : ℕ} {rest : Bytes} (w : Measuring f ks total rest) where
  module _ (key later : Bytes) (here : rest ≡ key ++ later) (whole : length key ≡ 32) where
    its_turn : Turn f w.count rest key later
    its_turn = turn f w.count rest key later w.left here whole

    pub measuring_fits : {len : ℕ} → len ≤ 17080 → total + len ≤ 4372480
    measuring_fits few = omega (arith, w.few, its_turn.one)

    pub measuring_refused : {n : ℕ} → f key ≡ refused n → refused n ≡ together_length (in_turn f (keys_in ks))
    measuring_refused e =
        let t = its_turn in
        sym (w.sums ∙ ap (λ a. more total (together_length a)) (t.answers ∙ ap (λ a. followed a (answers_from f t.less later)) e))

    pub measuring_next : {len : ℕ} (p : Proof) → f key ≡ accepted p → len ≡ proof_length p → len ≤ 17080 → Measuring f ks (total + len) later
    measuring_next {len} p e l few =
        let t = its_turn in
        let x = answers_from f t.less later in
        record {
          count = t.less;
          left = t.left;
          sums = w.sums
              ∙ ap (λ a. more total (together_length a)) (t.answers ∙ ap (λ a. followed a x) e)
              ∙ more_next total p x l;
          few = omega (arith, w.few, t.one);
        }

  pub measuring_done : length rest < 32 → accepted total ≡ together_length (in_turn f (keys_in ks))
  measuring_done h =
      sym (w.sums
      ∙ ap (λ (n : ℕ). more total (together_length (answers_from f n rest))) (none_left w.left h)
      ∙ ap accepted (add-zero total))
