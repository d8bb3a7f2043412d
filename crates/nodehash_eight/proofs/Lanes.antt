-- A message put into its lane, and a loop that puts one after another. Assumes nothing.
use Prim.Native.Nat.{ℕ, ◌+◌, ◌*◌, ◌%◌, ◌<◌}
use native.Mathlib.Omega.{arith}
use mathlib.Core.Path.{◌≡◌, refl, ap, ap₂, sym, subst, ◌∙◌}
use mathlib.Core.List.{List, [], ◌∷◌}
use lib.ListN.{length, length-set, get_or, set}
use borrow.Author.Count.{below_more}
use Rattle.terms.specs.Bits.{Bytes}
use Rattle.hash.specs.declared.Hash.{Hash}
use Rattle.hash.specs.Hash.{hash_bytes}
use Rattle.sha256.specs.declared.State.{State}
use Rattle.sha256.specs.declared.Words.{Words}
use Rattle.sha256.specs.Sha256.{H0, padded, sha256, state_bytes}
use Rattle.sha256.specs.Rolling.{folded, block_at}
use Rattle.sha256_second_start.specs.Second.{second_block}
use Rattle.sha256_eight.specs.Lanes.{words_in, word_list, spread}
use Rattle.sha256_eight.proofs.Spread.{spread_long, other_lane, word_before, word_put, words_other, words_put}
use Rattle.nodehash.specs.Words.{message}
use Rattle.nodehash.proofs.Blocks.{two_blocks}
use Rattle.nodehash_eight.specs.Eight.{lane_hash, Lanes, Put}

-- the two blocks of a message make its hash
pub lane_hash_lem : (x : List ℕ) (l t : ℕ) (left right : Hash) → words_in x l ≡ block_at (padded (message t left right)) 0 → get_or x (128 + l) 0 ≡ right.d % 256 * 16777216 + 8388608
    → lane_hash x l ≡ sha256 (message t left right)
unfolding lane_hash sha256 padded hash_bytes
lane_hash_lem x l t left right first last =
    ap state_bytes (two_blocks t left right H0 (folded H0 (words_in x l)) (folded (folded H0 (words_in x l)) (second_block (get_or x (128 + l) 0))) (words_in x l) (get_or x (128 + l) 0) refl first refl last refl)

-- word 16 of a lane stands after the block
block_before : (x : List ℕ) (l w : ℕ) → words_in (set x (128 + l) w) l ≡ words_in x l
block_before x l w =
    let at : (j : ℕ) → j < 16 → get_or (spread x l 16 (w ∷ [])) (8 * j + l) 0 ≡ get_or x (8 * j + l) 0 = λ j h. word_before x l 16 (w ∷ []) j h in
    rw (
      at 0 (omega arith),
      at 1 (omega arith),
      at 2 (omega arith),
      at 3 (omega arith),
      at 4 (omega arith),
      at 5 (omega arith),
      at 6 (omega arith),
      at 7 (omega arith),
      at 8 (omega arith),
      at 9 (omega arith),
      at 10 (omega arith),
      at 11 (omega arith),
      at 12 (omega arith),
      at 13 (omega arith),
      at 14 (omega arith),
      at 15 (omega arith),
    )

other_hash : (x : List ℕ) (l k : ℕ) (ws : List ℕ) (i : ℕ) → l < 8 → i < 8 → (i ≡ l → ⊥) → lane_hash (spread x l k ws) i ≡ lane_hash x i
unfolding lane_hash
other_hash x l k ws i g h n = rw (words_other x l k ws i g h n, other_lane x l k ws 16 i g h n)

pub put_lane : (x : List ℕ) (l t : ℕ) (left right : Hash) (v : Words) (w : ℕ) → length x ≡ 136 → l < 8 → v ≡ block_at (padded (message t left right)) 0 → w ≡ right.d % 256 * 16777216 + 8388608
    → Put x (set (spread x l 0 (word_list v)) (128 + l) w) l (sha256 (message t left right))
put_lane x l t left right v w long g first last = record {
  long = length-set (spread x l 0 (word_list v)) (128 + l) w ∙ spread_long x l 0 (word_list v);
  here = lane_hash_lem _ l t left right (block_before (spread x l 0 (word_list v)) l w ∙ words_put x l v g long ∙ first)
      (word_put (spread x l 0 (word_list v)) l 16 (w ∷ []) 0 g (omega (arith, spread_long x l 0 (word_list v))) (omega arith) ∙ last);
  others = λ i h n. other_hash (spread x l 0 (word_list v)) l 16 (w ∷ []) i g h n ∙ other_hash x l 0 (word_list v) i g h n;
}

-- one lane more
pub put_more : (P : ℕ → Bytes → Type 0) (x y : List ℕ) (l : ℕ) (hash : Bytes) → l < 8 → Put x y l hash → Lanes l P x → P l hash → Lanes (l + 1) P y
put_more P x y l hash g put done e =
    below_more (λ i. P i (lane_hash y i)) l
    (λ i k. subst (P i) (sym (put.others i (omega arith) (λ q. absurd (omega arith)))) (done i k))
    (subst (P l) (sym put.here) e)
