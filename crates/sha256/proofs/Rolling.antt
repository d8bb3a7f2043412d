-- The rounds that the code makes, sixteen words at a time, are FIPS's rounds: the words that it holds at round t are W(t) to W(t + 15).
-- Assumes nothing.
use Prim.Native.Nat.{ℕ, zero, suc, ◌+◌, ◌-◌, ◌≤◌, ◌<◌}
use mathlib.Core.Path.{◌≡◌, refl, ap, ◌∙◌}
use mathlib.Core.List.{List, []}
use native.Mathlib.Omega.{arith}
use native.Mathlib.Numerals.{add-one}
use native.Mathlib.Nat.{zero-add, suc-add, add-zero, add-suc, add_assoc}
use lib.ListN.{length, get_or, length-append, get_or-append}
use lib.Seq.{get_or_at}
use borrow.Author.Tests.{le-ltb}
use Rattle.sha256.specs.declared.State.{State}
use Rattle.sha256.specs.declared.Words.{Words}
use Rattle.sha256.specs.Sha256.{K, W, scheduled, round, rounds, added, compressed}
use Rattle.sha256.specs.Rolling.{roll, rolls, turns, folded}

-- The words x one further, with the word v at the end.
abbrev shift : Words → ℕ → Words
shift x v =
    record {
      w0 = x.w1;
      w1 = x.w2;
      w2 = x.w3;
      w3 = x.w4;
      w4 = x.w5;
      w5 = x.w6;
      w6 = x.w7;
      w7 = x.w8;
      w8 = x.w9;
      w9 = x.w10;
      w10 = x.w11;
      w11 = x.w12;
      w12 = x.w13;
      w13 = x.w14;
      w14 = x.w15;
      w15 = v;
    }

one_on : (n : ℕ) (x y : Words) {v : ℕ} → y ≡ rolls n x → v ≡ scheduled y.w14 y.w9 y.w1 y.w0 → shift y v ≡ rolls (suc n) x
one_on n x y e h = ap (λ (v : ℕ). shift y v) h ∙ ap roll e

-- Sixteen words of the schedule, each made from the words before it.
pub sixteen_words : (x : Words) {n0 n1 n2 n3 n4 n5 n6 n7 n8 n9 n10 n11 n12 n13 n14 n15 : ℕ}
    → n0 ≡ scheduled x.w14 x.w9 x.w1 x.w0
    → n1 ≡ scheduled x.w15 x.w10 x.w2 x.w1
    → n2 ≡ scheduled n0 x.w11 x.w3 x.w2
    → n3 ≡ scheduled n1 x.w12 x.w4 x.w3
    → n4 ≡ scheduled n2 x.w13 x.w5 x.w4
    → n5 ≡ scheduled n3 x.w14 x.w6 x.w5
    → n6 ≡ scheduled n4 x.w15 x.w7 x.w6
    → n7 ≡ scheduled n5 n0 x.w8 x.w7
    → n8 ≡ scheduled n6 n1 x.w9 x.w8
    → n9 ≡ scheduled n7 n2 x.w10 x.w9
    → n10 ≡ scheduled n8 n3 x.w11 x.w10
    → n11 ≡ scheduled n9 n4 x.w12 x.w11
    → n12 ≡ scheduled n10 n5 x.w13 x.w12
    → n13 ≡ scheduled n11 n6 x.w14 x.w13
    → n14 ≡ scheduled n12 n7 x.w15 x.w14
    → n15 ≡ scheduled n13 n8 n0 x.w15
    → ◌≡◌ {A = Words}
    (record {
      w0 = n0;
      w1 = n1;
      w2 = n2;
      w3 = n3;
      w4 = n4;
      w5 = n5;
      w6 = n6;
      w7 = n7;
      w8 = n8;
      w9 = n9;
      w10 = n10;
      w11 = n11;
      w12 = n12;
      w13 = n13;
      w14 = n14;
      w15 = n15;
    })
    (rolls 16 x)
sixteen_words x {n0} {n1} {n2} {n3} {n4} {n5} {n6} {n7} {n8} {n9} {n10} {n11} {n12} {n13} {n14} {n15} h0 h1 h2 h3 h4 h5 h6 h7 h8 h9 h10 h11 h12 h13 h14 h15 =
    let x1 : Words = shift x n0 in
    let e1 : x1 ≡ rolls 1 x = one_on 0 x x refl h0 in
    let x2 : Words = shift x1 n1 in
    let e2 : x2 ≡ rolls 2 x = one_on 1 x x1 e1 h1 in
    let x3 : Words = shift x2 n2 in
    let e3 : x3 ≡ rolls 3 x = one_on 2 x x2 e2 h2 in
    let x4 : Words = shift x3 n3 in
    let e4 : x4 ≡ rolls 4 x = one_on 3 x x3 e3 h3 in
    let x5 : Words = shift x4 n4 in
    let e5 : x5 ≡ rolls 5 x = one_on 4 x x4 e4 h4 in
    let x6 : Words = shift x5 n5 in
    let e6 : x6 ≡ rolls 6 x = one_on 5 x x5 e5 h5 in
    let x7 : Words = shift x6 n6 in
    let e7 : x7 ≡ rolls 7 x = one_on 6 x x6 e6 h6 in
    let x8 : Words = shift x7 n7 in
    let e8 : x8 ≡ rolls 8 x = one_on 7 x x7 e7 h7 in
    let x9 : Words = shift x8 n8 in
    let e9 : x9 ≡ rolls 9 x = one_on 8 x x8 e8 h8 in
    let x10 : Words = shift x9 n9 in
    let e10 : x10 ≡ rolls 10 x = one_on 9 x x9 e9 h9 in
    let x11 : Words = shift x10 n10 in
    let e11 : x11 ≡ rolls 11 x = one_on 10 x x10 e10 h10 in
    let x12 : Words = shift x11 n11 in
    let e12 : x12 ≡ rolls 12 x = one_on 11 x x11 e11 h11 in
    let x13 : Words = shift x12 n12 in
    let e13 : x13 ≡ rolls 13 x = one_on 12 x x12 e12 h12 in
    let x14 : Words = shift x13 n13 in
    let e14 : x14 ≡ rolls 14 x = one_on 13 x x13 e13 h13 in
    let x15 : Words = shift x14 n14 in
    let e15 : x15 ≡ rolls 15 x = one_on 14 x x14 e14 h14 in
    one_on 15 x x15 e15 h15

one_round : (t n : ℕ) (x : Words) (s0 : State) {s r : State} → s ≡ turns t n s0 x → r ≡ round s (get_or K (t + n) 0) (rolls n x).w0
    → r ≡ turns t (suc n) s0 x
one_round t n x s0 e h = h ∙ ap (λ (s : State). round s (get_or K (t + n) 0) (rolls n x).w0) e

-- Sixteen rounds, each from the one before it.
pub sixteen_rounds : (t : ℕ) (x : Words) (s0 : State) {s1 s2 s3 s4 s5 s6 s7 s8 s9 s10 s11 s12 s13 s14 s15 s16 : State}
    → s1 ≡ round s0 (get_or K (t + 0) 0) x.w0
    → s2 ≡ round s1 (get_or K (t + 1) 0) x.w1
    → s3 ≡ round s2 (get_or K (t + 2) 0) x.w2
    → s4 ≡ round s3 (get_or K (t + 3) 0) x.w3
    → s5 ≡ round s4 (get_or K (t + 4) 0) x.w4
    → s6 ≡ round s5 (get_or K (t + 5) 0) x.w5
    → s7 ≡ round s6 (get_or K (t + 6) 0) x.w6
    → s8 ≡ round s7 (get_or K (t + 7) 0) x.w7
    → s9 ≡ round s8 (get_or K (t + 8) 0) x.w8
    → s10 ≡ round s9 (get_or K (t + 9) 0) x.w9
    → s11 ≡ round s10 (get_or K (t + 10) 0) x.w10
    → s12 ≡ round s11 (get_or K (t + 11) 0) x.w11
    → s13 ≡ round s12 (get_or K (t + 12) 0) x.w12
    → s14 ≡ round s13 (get_or K (t + 13) 0) x.w13
    → s15 ≡ round s14 (get_or K (t + 14) 0) x.w14
    → s16 ≡ round s15 (get_or K (t + 15) 0) x.w15
    → s16 ≡ turns t 16 s0 x
sixteen_rounds t x s0 {s1} {s2} {s3} {s4} {s5} {s6} {s7} {s8} {s9} {s10} {s11} {s12} {s13} {s14} {s15} {s16} h0 h1 h2 h3 h4 h5 h6 h7 h8 h9 h10 h11 h12 h13 h14 h15 =
    let e1 : s1 ≡ turns t 1 s0 x = one_round t 0 x s0 refl h0 in
    let e2 : s2 ≡ turns t 2 s0 x = one_round t 1 x s0 e1 h1 in
    let e3 : s3 ≡ turns t 3 s0 x = one_round t 2 x s0 e2 h2 in
    let e4 : s4 ≡ turns t 4 s0 x = one_round t 3 x s0 e3 h3 in
    let e5 : s5 ≡ turns t 5 s0 x = one_round t 4 x s0 e4 h4 in
    let e6 : s6 ≡ turns t 6 s0 x = one_round t 5 x s0 e5 h5 in
    let e7 : s7 ≡ turns t 7 s0 x = one_round t 6 x s0 e6 h6 in
    let e8 : s8 ≡ turns t 8 s0 x = one_round t 7 x s0 e7 h7 in
    let e9 : s9 ≡ turns t 9 s0 x = one_round t 8 x s0 e8 h8 in
    let e10 : s10 ≡ turns t 10 s0 x = one_round t 9 x s0 e9 h9 in
    let e11 : s11 ≡ turns t 11 s0 x = one_round t 10 x s0 e10 h10 in
    let e12 : s12 ≡ turns t 12 s0 x = one_round t 11 x s0 e11 h11 in
    let e13 : s13 ≡ turns t 13 s0 x = one_round t 12 x s0 e12 h12 in
    let e14 : s14 ≡ turns t 14 s0 x = one_round t 13 x s0 e13 h13 in
    let e15 : s15 ≡ turns t 15 s0 x = one_round t 14 x s0 e14 h14 in
    one_round t 15 x s0 e15 h15

rolls_add : (m n : ℕ) (x : Words) → rolls (m + n) x ≡ rolls n (rolls m x)
rolls_add m zero x = rw add-zero
rolls_add m (suc n) x = rw (add-suc m n, rolls_add m n x)

turns_add : (t m n : ℕ) (s : State) (x : Words) → turns t (m + n) s x ≡ turns (t + m) n (turns t m s x) (rolls m x)
turns_add t m zero s x = rw add-zero
turns_add t m (suc n) s x = rw (add-suc m n, turns_add t m n s x, rolls_add m n x, add_assoc t m n)

more_rolls : (n k : ℕ) (x y z : Words) → y ≡ rolls n x → z ≡ rolls k y → z ≡ rolls (n + k) x
more_rolls n k x y z hy hz = rw (rolls_add n k x, ← hy) hz

more_turns : (n k : ℕ) (s r q : State) (x y : Words) → r ≡ turns 0 n s x → y ≡ rolls n x → q ≡ turns n k r y → q ≡ turns 0 (n + k) s x
more_turns n k s r q x y hr hy hq = rw (turns_add 0 n k s x, zero-add n, ← hr, ← hy) hq

-- Four times sixteen rounds, each from the words that the ones before left.
pub four_times : (s s0 s1 s2 s3 : State) (x x1 x2 x3 : Words) → x1 ≡ rolls 16 x → x2 ≡ rolls 16 x1 → x3 ≡ rolls 16 x2
    → s0 ≡ turns 0 16 s x → s1 ≡ turns 16 16 s0 x1 → s2 ≡ turns 32 16 s1 x2 → s3 ≡ turns 48 16 s2 x3 → s3 ≡ turns 0 64 s x
four_times s s0 s1 s2 s3 x x1 x2 x3 e1 e2 e3 h0 h1 h2 h3 =
    let g2 = more_rolls 16 16 x x1 x2 e1 e2 in
    let g3 = more_rolls 32 16 x x2 x3 g2 e3 in
    more_turns 48 16 s s2 s3 x x3 (more_turns 32 16 s s1 s2 x x2 (more_turns 16 16 s s0 s1 x x1 h0 e1 h1) g2 h2) g3 h3

length_w : (m : ℕ → ℕ) (t : ℕ) → length (W m t) ≡ t
length_w m zero = refl
length_w m (suc t) = rw (length-append, length_w m t) (add-one t)

-- A word of the schedule stays as the schedule grows.
W-stays : (m : ℕ → ℕ) (j k t : ℕ) → t < j → get_or (W m (k + j)) t 0 ≡ get_or (W m j) t 0
W-stays m j zero t h = rw (zero-add j)
W-stays m j (suc k) t h =
    let f : t < length (W m (k + j)) = rw (length_w m (k + j)) (omega arith) in
    rw (suc-add k j, get_or-append, W-stays m j k t h)

-- W(t), for every t.
abbrev word : (ℕ → ℕ) → ℕ → ℕ
word m t = get_or (W m (suc t)) t 0

earlier : (m : ℕ → ℕ) (s p q : ℕ) → p ≡ q → q < s → get_or (W m s) p 0 ≡ word m q
earlier m s p q e h =
    let f : s ≡ s - suc q + suc q = omega arith in
    rw e (ap (λ (k : ℕ). get_or (W m k) q 0) f ∙ W-stays m (suc q) (s - suc q) q (omega arith))

-- FIPS's equation for W(t) from t = 16 on.
W-later : (m : ℕ → ℕ) (t : ℕ) → word m (t + 16) ≡ scheduled (word m (t + 14)) (word m (t + 9)) (word m (t + 1)) (word m t)
W-later m t =
    get_or_at (W m (t + 16)) _ [] 0 (t + 16) (length_w m (t + 16))
    ∙ rw (
      le-ltb (t + 16) 16 (omega arith),
      earlier m (t + 16) (t + 16 - 2) (t + 14) (omega arith) (omega arith),
      earlier m (t + 16) (t + 16 - 7) (t + 9) (omega arith) (omega arith),
      earlier m (t + 16) (t + 16 - 15) (t + 1) (omega arith) (omega arith),
      earlier m (t + 16) (t + 16 - 16) t (omega arith) (omega arith),
    )

-- The values of f from p on.
abbrev window : (ℕ → ℕ) → ℕ → Words
window f p =
    record {
      w0 = f p;
      w1 = f (p + 1);
      w2 = f (p + 2);
      w3 = f (p + 3);
      w4 = f (p + 4);
      w5 = f (p + 5);
      w6 = f (p + 6);
      w7 = f (p + 7);
      w8 = f (p + 8);
      w9 = f (p + 9);
      w10 = f (p + 10);
      w11 = f (p + 11);
      w12 = f (p + 12);
      w13 = f (p + 13);
      w14 = f (p + 14);
      w15 = f (p + 15);
    }

window_on : (f : ℕ → ℕ) (n : ℕ) → shift (window f n) (f (n + 16)) ≡ window f (suc n)
window_on f n = rw (on 15 16 refl, on 14 15 refl, on 13 14 refl, on 12 13 refl, on 11 12 refl, on 10 11 refl, on 9 10 refl, on 8 9 refl, on 7 8 refl, on 6 7 refl, on 5 6 refl, on 4 5 refl, on 3 4 refl, on 2 3 refl, on 1 2 refl, ← add-one n)
  where
    on : (i j : ℕ) → j ≡ i + 1 → suc n + i ≡ n + j
    on i j e = omega arith

-- The words of a block.
abbrev pub words_of : (ℕ → ℕ) → Words
words_of m = window m 0

rolls_are_w : (m : ℕ → ℕ) (n : ℕ) → rolls n (words_of m) ≡ window (word m) n
rolls_are_w m zero = refl
rolls_are_w m (suc n) = rw (rolls_are_w m n, ← W-later m n) (window_on (word m) n)

turns_are_rounds : (m : ℕ → ℕ) (s : State) (w : List ℕ) → ((t : ℕ) → t < 64 → get_or w t 0 ≡ word m t)
    → (t : ℕ) → t ≤ 64 → rounds w s t ≡ turns 0 t s (words_of m)
turns_are_rounds m s w h zero f = refl
turns_are_rounds m s w h (suc t) f = rw (turns_are_rounds m s w h t (omega arith), zero-add t, rolls_are_w m t, h t (omega arith))

pub folded_is_compressed : (s : State) (m : ℕ → ℕ) → compressed s m ≡ folded s (words_of m)
unfolding compressed folded
folded_is_compressed s m =
    ap (λ (x : State). added x s) (turns_are_rounds m s (W m 64) (λ t h. earlier m 64 t t refl h) 64 (omega arith))
