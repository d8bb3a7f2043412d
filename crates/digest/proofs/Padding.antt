-- The blocks that the code reads are those of the padded message: a word before the message's end is the message's own, the next ones
-- are 128 and zeros, and the last two hold its length. Assumes nothing.
use Prim.Native.Nat.{ℕ, zero, suc, ◌+◌, ◌*◌, ◌-◌, ◌/◌, ◌%◌, ◌^◌, ◌≤◌, ◌<◌}
use mathlib.Core.Path.{◌≡◌, refl, ap, ◌∙◌, sym}
use mathlib.Core.List.{[], ◌∷◌, ◌++◌, append_assoc}
use native.Mathlib.Omega.{arith}
use native.Mathlib.Numerals.{add-one, one-add}
use lib.ListN.{length, get_or, replicate, length-append, length-replicate, get_or-append, get_or-eq_default}
use lib.Seq.{get_or-append-add}
use Rattle.terms.specs.Bits.{Bytes}
use Rattle.hash.specs.BigEndian.{big, word_at}
use Rattle.hash.proofs.Digits.{big_split, word_big}
use Rattle.sha256.specs.declared.State.{State}
use Rattle.sha256.specs.declared.Words.{Words}
use Rattle.sha256.specs.Sha256.{marked, padded, hash_value}
use Rattle.sha256.specs.Rolling.{folded, block_at}
use Rattle.digest.specs.Tail.{last_of}
use Rattle.sha256.proofs.Blocks.{value_next}

-- The message and the byte 128.
abbrev ended : Bytes → Bytes
ended m = m ++ (128 ∷ [])

pub word_append : (m t : Bytes) (p : ℕ) → p + 4 ≤ length m → word_at (m ++ t) p ≡ word_at m p
unfolding word_at
word_append m t p h =
    rw (
      get_or-append m t 0 p (omega arith),
      get_or-append m t 0 (p + 1) (omega arith),
      get_or-append m t 0 (p + 2) (omega arith),
      get_or-append m t 0 (p + 3) (omega arith),
    )

blocks_same : (l m : Bytes) (p : ℕ) → ((k : ℕ) → k < 61 → word_at l (p + k) ≡ word_at m (p + k)) → word_at l p ≡ word_at m p
    → block_at l p ≡ block_at m p
unfolding block_at
blocks_same l m p h h0 =
    rw (
      h0,
      h 4 (omega arith),
      h 8 (omega arith),
      h 12 (omega arith),
      h 16 (omega arith),
      h 20 (omega arith),
      h 24 (omega arith),
      h 28 (omega arith),
      h 32 (omega arith),
      h 36 (omega arith),
      h 40 (omega arith),
      h 44 (omega arith),
      h 48 (omega arith),
      h 52 (omega arith),
      h 56 (omega arith),
      h 60 (omega arith),
    )

-- A block that the message fills is the message's own.
block_whole : (m : Bytes) (p : ℕ) → p + 64 ≤ length m → block_at (padded m) p ≡ block_at m p
unfolding padded
block_whole m p h =
    let z : Bytes = 128 ∷ replicate ((119 - length m % 64) % 64) 0 in
    let t : Bytes = z ++ big 8 (length m * 8) in
    rw (append_assoc m z (big 8 (length m * 8)))
    (blocks_same (m ++ t) m p (λ k f. word_append m t (p + k) (omega arith)) (word_append m t p (omega arith)))

pub whole_next : (m : Bytes) (i : ℕ) (s r : State) (x : Words)
    → i * 64 + 64 ≤ length m → s ≡ hash_value (padded m) i → x ≡ block_at m (i * 64) → r ≡ folded s x → r ≡ hash_value (padded m) (i + 1)
whole_next m i s r x f hs hx hr = rw (add-one i, value_next (padded m) i, hr, hs, hx, block_whole m (i * 64) f)

zeros_at : (z p : ℕ) → ◌≡◌ {A = ℕ} (get_or (replicate z 0) p 0) 0
zeros_at zero p = refl
zeros_at (suc z) zero = refl
zeros_at (suc z) (suc p) = zeros_at z p

marked_at : (m : Bytes) (z p : ℕ) → get_or (m ++ (128 ∷ replicate z 0)) p 0 ≡ get_or (ended m) p 0
marked_at [] z zero = refl
marked_at [] z (suc p) = zeros_at z p
marked_at (x ∷ m) z zero = refl
marked_at (x ∷ m) z (suc p) = marked_at m z p

length_marked : (m : Bytes) → length (marked m) ≡ length m + (1 + (119 - length m % 64) % 64)
length_marked m =
    length-append m _ ∙ ap (λ (k : ℕ). length m + k) (ap suc (length-replicate ((119 - length m % 64) % 64) 0) ∙ sym (one-add _))

-- How many blocks the padded message has.
blocks_of : (m : Bytes) → length (padded m) / 64 ≡ (length m + 72) / 64
unfolding padded
blocks_of m =
    let e = length-append (marked m) (big 8 (length m * 8)) in
    let f = length_marked m in
    omega arith

-- A word of the padded message before the message's length.
word_before : (m : Bytes) (p : ℕ) → p + 4 ≤ length (marked m) → word_at (padded m) p ≡ word_at (ended m) p
unfolding padded word_at
word_before m p h =
    let z : ℕ = (119 - length m % 64) % 64 in
    word_append (marked m) (big 8 (length m * 8)) p h
    ∙ rw (marked_at m z p, marked_at m z (p + 1), marked_at m z (p + 2), marked_at m z (p + 3))

block_before : (m : Bytes) (p : ℕ) → p + 64 ≤ length (marked m) → block_at (padded m) p ≡ block_at (ended m) p
block_before m p h = blocks_same (padded m) (ended m) p (λ k f. word_before m (p + k) (omega arith)) (word_before m p (omega arith))

at_seam : (x l : Bytes) (j i : ℕ) → j ≡ length x + i → get_or (x ++ l) j 0 ≡ get_or l i 0
at_seam x l j i h = rw h (get_or-append-add x l i 0)

word_seam : (x l : Bytes) (p k : ℕ) → p ≡ length x + k → word_at (x ++ l) p ≡ word_at l k
unfolding word_at
word_seam x l p k h =
    rw (at_seam x l p k h, at_seam x l (p + 1) (k + 1) (omega arith), at_seam x l (p + 2) (k + 2) (omega arith), at_seam x l (p + 3) (k + 3) (omega arith))

high_word : (n : ℕ) → word_at (big 8 (n * 8)) 0 ≡ n / 2 ^ 29 % 2 ^ 32
unfolding word_at
high_word n =
    ap (λ (l : Bytes). word_at l 0) (big_split 4 4 (n * 8)) ∙ word_big (n * 8 / 2 ^ 32) ∙ ap (λ (k : ℕ). k % 2 ^ 32) (eighth n)
  where
    eighth : (n : ℕ) → n * 8 / 2 ^ 32 ≡ n / 2 ^ 29
    eighth n = omega arith

low_word : (n : ℕ) → word_at (big 8 (n * 8)) 4 ≡ n % 2 ^ 29 * 8
unfolding word_at
low_word n = word_big (n * 8) ∙ omega arith

block_last : (m : Bytes) (p : ℕ) → p + 56 ≡ length (marked m) → block_at (padded m) p ≡ last_of (block_at (ended m) p) (length m)
unfolding block_at padded
block_last m p h =
    let l = big 8 (length m * 8) in
    rw (
      word_before m p (omega arith),
      word_before m (p + 4) (omega arith),
      word_before m (p + 8) (omega arith),
      word_before m (p + 12) (omega arith),
      word_before m (p + 16) (omega arith),
      word_before m (p + 20) (omega arith),
      word_before m (p + 24) (omega arith),
      word_before m (p + 28) (omega arith),
      word_before m (p + 32) (omega arith),
      word_before m (p + 36) (omega arith),
      word_before m (p + 40) (omega arith),
      word_before m (p + 44) (omega arith),
      word_before m (p + 48) (omega arith),
      word_before m (p + 52) (omega arith),
      word_seam (marked m) l (p + 56) 0 (omega arith),
      word_seam (marked m) l (p + 60) 4 (omega arith),
      high_word (length m),
      low_word (length m),
    )

-- The message's end and its length in one block.
pub one_block_end : (m : Bytes) (s r : State) (x y : Words) → length m % 64 < 56 → s ≡ hash_value (padded m) (length m / 64)
    → x ≡ block_at (ended m) (length m / 64 * 64) → y ≡ last_of x (length m) → r ≡ folded s y → r ≡ hash_value (padded m) (length (padded m) / 64)
one_block_end m s r x y h hs hx hy hr =
    let e : (length m + 72) / 64 ≡ suc (length m / 64) = omega arith in
    let g : length m / 64 * 64 + 56 ≡ length (marked m) = omega (arith, length_marked m) in
    rw (blocks_of m, e, value_next (padded m) (length m / 64), hr, hs, hy, hx, block_last m (length m / 64 * 64) g)

-- The message's end in one block, its length in the next.
pub two_blocks_end : (m : Bytes) (s t r : State) (x x2 y : Words) → 56 ≤ length m % 64 → s ≡ hash_value (padded m) (length m / 64)
    → x ≡ block_at (ended m) (length m / 64 * 64) → t ≡ folded s x
    → x2 ≡ block_at (ended m) (length m / 64 * 64 + 64) → y ≡ last_of x2 (length m) → r ≡ folded t y → r ≡ hash_value (padded m) (length (padded m) / 64)
two_blocks_end m s t r x x2 y h hs hx ht hx2 hy hr =
    let i : ℕ = length m / 64 in
    let e : (length m + 72) / 64 ≡ suc (suc i) = omega arith in
    let g : i * 64 + 64 + 56 ≡ length (marked m) = omega (arith, length_marked m) in
    let q : suc i * 64 ≡ i * 64 + 64 = omega arith in
    let last : y ≡ block_at (padded m) (suc i * 64) = hy ∙ rw (hx2, q) (sym (block_last m (i * 64 + 64) g)) in
    let before : x ≡ block_at (padded m) (i * 64) = hx ∙ sym (block_before m (i * 64) (omega arith)) in
    rw (blocks_of m, e, value_next (padded m) (suc i), value_next (padded m) i, hr, ht, hs, last, before)

-- What the code reads past the message's end.
pub tail_inside : (m : Bytes) (p : ℕ) → p < length m → get_or (ended m) p 0 ≡ get_or m p 0
tail_inside m p h = get_or-append m (128 ∷ []) 0 p h

pub tail_past : (m : Bytes) (p : ℕ) → length m < p → ◌≡◌ {A = ℕ} (get_or (ended m) p 0) 0
tail_past m p h = get_or-eq_default (ended m) 0 {n = p} (simp length-append (omega arith))

pub word_past : (m : Bytes) (p : ℕ) → length m < p → ◌≡◌ {A = ℕ} (word_at (ended m) p) 0
unfolding word_at
word_past m p h = rw (tail_past m p h, tail_past m (p + 1) (omega arith), tail_past m (p + 2) (omega arith), tail_past m (p + 3) (omega arith))
