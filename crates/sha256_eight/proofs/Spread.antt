-- Words put into one lane stand there, and the other lanes keep theirs. Assumes nothing.
use Prim.Native.Nat.{ℕ, zero, suc, ◌+◌, ◌*◌, ◌-◌, ◌<◌, ◌≤◌}
use native.Mathlib.Omega.{arith}
use mathlib.Core.Path.{◌≡◌, refl, ap, sym, subst, ◌∙◌}
use mathlib.Core.List.{List, [], ◌∷◌}
use lib.ListN.{length, length-set, set, get_or}
use lib.Seq.{get_or-set_same, get_or-set_other}
use borrow.Author.Count.{below_more}
use Rattle.sha256.specs.declared.State.{State}
use Rattle.sha256.specs.declared.Words.{Words}
use Rattle.sha256_eight.specs.Lanes.{value_inside, words_in, value_list, word_list, spread}

pub spread_long : (x : List ℕ) (l k : ℕ) (ws : List ℕ) → length (spread x l k ws) ≡ length x
spread_long x l k [] = refl
spread_long x l k (w ∷ ws) = spread_long (set x (8 * k + l) w) l (suc k) ws ∙ length-set x (8 * k + l) w

-- two places of different lanes
apart : (j i k l : ℕ) → i < 8 → l < 8 → (i ≡ l → ⊥) → 8 * j + i ≡ 8 * k + l → ⊥
apart j i k l h g n e = n (omega arith)

pub other_lane : (x : List ℕ) (l k : ℕ) (ws : List ℕ) (j i : ℕ) → l < 8 → i < 8 → (i ≡ l → ⊥) → get_or (spread x l k ws) (8 * j + i) 0 ≡ get_or x (8 * j + i) 0
other_lane x l k [] j i g h n = refl
other_lane x l k (w ∷ ws) j i g h n =
    other_lane (set x (8 * k + l) w) l (suc k) ws j i g h n ∙ get_or-set_other x (8 * k + l) (8 * j + i) w 0 (apart j i k l h g n)

-- the words before word k
pub word_before : (x : List ℕ) (l k : ℕ) (ws : List ℕ) (j : ℕ) → j < k → get_or (spread x l k ws) (8 * j + l) 0 ≡ get_or x (8 * j + l) 0
word_before x l k [] j h = refl
word_before x l k (w ∷ ws) j h =
    word_before (set x (8 * k + l) w) l (suc k) ws j (omega arith) ∙ get_or-set_other x (8 * k + l) (8 * j + l) w 0 (λ e. absurd (omega arith))

-- the words from word k on
pub word_put : (x : List ℕ) (l k : ℕ) (ws : List ℕ) (j : ℕ) → l < 8 → 8 * (k + length ws) ≤ length x → j < length ws → get_or (spread x l k ws) (8 * (k + j) + l) 0 ≡ get_or ws j 0
word_put x l k [] j g long h = absurd (omega arith)
word_put x l k (w ∷ ws) zero g long h =
    ap (λ (i : ℕ). get_or (spread (set x (8 * k + l) w) l (suc k) ws) (8 * i + l) 0) (omega arith) ∙ word_before (set x (8 * k + l) w) l (suc k) ws k (omega arith) ∙ get_or-set_same x (8 * k + l) w 0 (omega arith)
word_put x l k (w ∷ ws) (suc j) g long h =
    ap (λ (i : ℕ). get_or (spread (set x (8 * k + l) w) l (suc k) ws) (8 * i + l) 0) (omega arith) ∙ word_put (set x (8 * k + l) w) l (suc k) ws j g (simp length-set (omega arith)) (omega arith)

-- the other lanes of both kinds, and the lane itself
pub value_other : (x : List ℕ) (l k : ℕ) (ws : List ℕ) (i : ℕ) → l < 8 → i < 8 → (i ≡ l → ⊥) → value_inside (spread x l k ws) i ≡ value_inside x i
value_other x l k ws i g h n =
    rw (
      other_lane x l k ws 0 i g h n,
      other_lane x l k ws 1 i g h n,
      other_lane x l k ws 2 i g h n,
      other_lane x l k ws 3 i g h n,
      other_lane x l k ws 4 i g h n,
      other_lane x l k ws 5 i g h n,
      other_lane x l k ws 6 i g h n,
      other_lane x l k ws 7 i g h n,
    )

pub value_put : (x : List ℕ) (l : ℕ) (v : State) → l < 8 → length x ≡ 64 → value_inside (spread x l 0 (value_list v)) l ≡ v
value_put x l v g long =
    let at : (j : ℕ) → j < 8 → get_or (spread x l 0 (value_list v)) (8 * (0 + j) + l) 0 ≡ get_or (value_list v) j 0 = λ j h. word_put x l 0 (value_list v) j g (omega arith) h in
    rw (at 0 (omega arith), at 1 (omega arith), at 2 (omega arith), at 3 (omega arith), at 4 (omega arith), at 5 (omega arith), at 6 (omega arith), at 7 (omega arith))

pub words_other : (x : List ℕ) (l k : ℕ) (ws : List ℕ) (i : ℕ) → l < 8 → i < 8 → (i ≡ l → ⊥) → words_in (spread x l k ws) i ≡ words_in x i
words_other x l k ws i g h n =
    rw (
      other_lane x l k ws 0 i g h n,
      other_lane x l k ws 1 i g h n,
      other_lane x l k ws 2 i g h n,
      other_lane x l k ws 3 i g h n,
      other_lane x l k ws 4 i g h n,
      other_lane x l k ws 5 i g h n,
      other_lane x l k ws 6 i g h n,
      other_lane x l k ws 7 i g h n,
      other_lane x l k ws 8 i g h n,
      other_lane x l k ws 9 i g h n,
      other_lane x l k ws 10 i g h n,
      other_lane x l k ws 11 i g h n,
      other_lane x l k ws 12 i g h n,
      other_lane x l k ws 13 i g h n,
      other_lane x l k ws 14 i g h n,
      other_lane x l k ws 15 i g h n,
    )

pub words_put : (x : List ℕ) (l : ℕ) (v : Words) → l < 8 → length x ≡ 136 → words_in (spread x l 0 (word_list v)) l ≡ v
words_put x l v g long =
    let at : (j : ℕ) → j < 16 → get_or (spread x l 0 (word_list v)) (8 * (0 + j) + l) 0 ≡ get_or (word_list v) j 0 = λ j h. word_put x l 0 (word_list v) j g (omega arith) h in
    rw (
      at 0 (omega arith),
      at 1 (omega arith),
      at 2 (omega arith),
      at 3 (omega arith),
      at 4 (omega arith),
      at 5 (omega arith),
      at 6 (omega arith),
      at 7 (omega arith),
      at 8 (omega arith),
      at 9 (omega arith),
      at 10 (omega arith),
      at 11 (omega arith),
      at 12 (omega arith),
      at 13 (omega arith),
      at 14 (omega arith),
      at 15 (omega arith),
    )

-- a loop that fills lane after lane
pub value_more : (P : ℕ → State → Type 0) (x : List ℕ) (l : ℕ) (v : State) → l < 8 → length x ≡ 64 → ((i : ℕ) → i < l → P i (value_inside x i)) → P l v
    → (i : ℕ) → i < l + 1 → P i (value_inside (spread x l 0 (value_list v)) i)
value_more P x l v g long done e =
    below_more (λ i. P i (value_inside (spread x l 0 (value_list v)) i)) l
    (λ i k. subst (P i) (sym (value_other x l 0 (value_list v) i g (omega arith) (λ q. absurd (omega arith)))) (done i k))
    (subst (P l) (sym (value_put x l v g long)) e)

pub words_more : (P : ℕ → Words → Type 0) (x : List ℕ) (l : ℕ) (v : Words) → l < 8 → length x ≡ 136 → ((i : ℕ) → i < l → P i (words_in x i)) → P l v
    → (i : ℕ) → i < l + 1 → P i (words_in (spread x l 0 (word_list v)) i)
words_more P x l v g long done e =
    below_more (λ i. P i (words_in (spread x l 0 (word_list v)) i)) l
    (λ i k. subst (P i) (sym (words_other x l 0 (word_list v) i g (omega arith) (λ q. absurd (omega arith)))) (done i k))
    (subst (P l) (sym (words_put x l v g long)) e)
