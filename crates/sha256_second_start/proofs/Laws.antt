-- What is known of the second block's rounds and words: a word that is known can stand in its round's constant, and a zero adds nothing to a
-- word of the schedule. Assumes nothing.
use Prim.Native.Nat.{ℕ, ◌+◌, ◌%◌, ◌^◌, ◌<◌}
use mathlib.Core.Path.{◌≡◌, refl, ap, ◌∙◌}
use native.Mathlib.Omega.{arith}
use Rattle.sha256.specs.declared.State.{State}
use Rattle.sha256_words.specs.Words.{◌⊞◌, Ch, Maj, Σ₀, Σ₁, σ₀, σ₁}
use Rattle.sha256.specs.Sha256.{scheduled, round}

-- A round without a word.
abbrev pub quiet : State → ℕ → State
quiet s k =
    record {
      a = s.h ⊞ Σ₁ s.e ⊞ Ch s.e s.f s.g ⊞ k ⊞ (Σ₀ s.a ⊞ Maj s.a s.b s.c);
      b = s.a;
      c = s.b;
      d = s.c;
      e = s.d ⊞ (s.h ⊞ Σ₁ s.e ⊞ Ch s.e s.f s.g ⊞ k);
      f = s.e;
      g = s.f;
      h = s.g;
    }

-- The round with the first sum t, the second u.
abbrev summed : State → ℕ → ℕ → State
summed s t u =
    record {
      a = t ⊞ u;
      b = s.a;
      c = s.b;
      d = s.c;
      e = s.d ⊞ t;
      f = s.e;
      g = s.f;
      h = s.g;
    }

pub no_word : (s : State) (k : ℕ) → quiet s k ≡ round s k 0
unfolding round
no_word s k = ap (λ (t : ℕ). summed s t (Σ₀ s.a ⊞ Maj s.a s.b s.c)) (still ((s.h ⊞ Σ₁ s.e ⊞ Ch s.e s.f s.g) + k))
  where
    still : (n : ℕ) → n % 2 ^ 32 ≡ (n % 2 ^ 32 + 0) % 2 ^ 32
    still n = omega arith

-- A word that is known stands in the constant.
pub word_in_constant : (s : State) (k w : ℕ) → round s (k ⊞ w) 0 ≡ round s k w
unfolding round
word_in_constant s k w = ap (λ (t : ℕ). summed s t (Σ₀ s.a ⊞ Maj s.a s.b s.c)) (both (s.h ⊞ Σ₁ s.e ⊞ Ch s.e s.f s.g))
  where
    both : (n : ℕ) → ((n + (k + w) % 2 ^ 32) % 2 ^ 32 + 0) % 2 ^ 32 ≡ ((n + k) % 2 ^ 32 + w) % 2 ^ 32
    both n = omega arith

pub only_two : (p : ℕ) → σ₁ p < 2 ^ 32 → σ₁ p ≡ scheduled p 0 0 0
unfolding scheduled σ₀
only_two p h = same (σ₁ p) h
  where
    same : (n : ℕ) → n < 2 ^ 32 → n ≡ (((n + 0) % 2 ^ 32 + 0) % 2 ^ 32 + 0) % 2 ^ 32
    same n h = omega arith

pub two_and_seven : (p q : ℕ) → σ₁ p ⊞ q ≡ scheduled p q 0 0
unfolding scheduled σ₀
two_and_seven p q = same (σ₁ p + q)
  where
    same : (n : ℕ) → n % 2 ^ 32 ≡ ((n % 2 ^ 32 + 0) % 2 ^ 32 + 0) % 2 ^ 32
    same n = omega arith

-- the sum of the first three terms
three_terms : (p q r : ℕ) → scheduled p q 0 0 ⊞ σ₀ r ≡ σ₁ p ⊞ q ⊞ σ₀ r
unfolding scheduled σ₀
three_terms p q r = same (σ₁ p + q) (σ₀ r)
  where
    same : (n m : ℕ) → (((n % 2 ^ 32 + 0) % 2 ^ 32 + 0) % 2 ^ 32 + m) % 2 ^ 32 ≡ (n % 2 ^ 32 + m) % 2 ^ 32
    same n m = omega arith

pub with_fifteen : (p q r : ℕ) → scheduled p q 0 0 ⊞ σ₀ r ≡ scheduled p q r 0
unfolding scheduled
with_fifteen p q r = three_terms p q r ∙ same ((σ₁ p ⊞ q) + σ₀ r)
  where
    same : (n : ℕ) → n % 2 ^ 32 ≡ (n % 2 ^ 32 + 0) % 2 ^ 32
    same n = omega arith

pub with_all : (p q r s : ℕ) → scheduled p q 0 0 ⊞ σ₀ r ⊞ s ≡ scheduled p q r s
unfolding scheduled
with_all p q r s = ap (λ (n : ℕ). n ⊞ s) (three_terms p q r)

pub only_sixteen : (w : ℕ) → w < 2 ^ 32 → w ≡ scheduled 0 0 0 w
unfolding scheduled σ₀ σ₁
only_sixteen w h = omega arith
