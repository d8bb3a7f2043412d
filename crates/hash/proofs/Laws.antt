-- A hash and its 32 bytes: each is got back from the other, eight bytes at a time.
-- Assumes nothing.
use Prim.Native.Nat.{ℕ, zero, suc, ◌+◌, ◌*◌, ◌-◌, ◌/◌, ◌%◌, ◌^◌, ◌≤◌, ◌<◌}
use mathlib.Core.Path.{◌≡◌, refl, ap, ◌∙◌, sym}
use mathlib.Core.Bool.{Bool, true, false, ◌&&◌, false≢true}
use lib.Dec.{eqb}
use borrow.Author.Tests.{eqb-true, eq-eqb}
use Rattle.terms.proofs.Tests.{and_left, and_right}
use mathlib.Core.List.{[], ◌∷◌, ◌++◌, append-nil}
use native.Mathlib.Omega.{arith}
use native.Mathlib.Nat.{mod-eq_of_lt, div-one}
use lib.ListN.{length, take, drop, get_or, length-take, length-drop, take-append-drop, drop_of_length-le}
use lib.Seq.{drop-drop, take_all, take-take, take-add, drop_at}
use Rattle.terms.specs.Bits.{Bytes, Byte, All, Whole32, same_bytes}
use Rattle.hash.specs.declared.Hash.{Hash}
use Rattle.hash.specs.BigEndian.{big, number, word_at}
use Rattle.hash.specs.Hash.{hash_bytes, hash_of, Fits}
use Rattle.hash.proofs.Digits.{bytes_big, number_big, big_number, number_append, word_number, all_bytes}
use Rattle.hash.proofs.Same.{same_self, same_not}

all_append : (x y : Bytes) → All Byte x → All Byte y → All Byte (x ++ y)
all_append [] y hx hy = hy
all_append (b ∷ x) y (h, hx) hy = (h, all_append x y hx hy)

all_take : (n : ℕ) (x : Bytes) → All Byte x → All Byte (take n x)
all_take zero x h = tt
all_take (suc n) [] h = tt
all_take (suc n) (b ∷ x) (h, hx) = (h, all_take n x hx)

all_drop : (n : ℕ) (x : Bytes) → All Byte x → All Byte (drop n x)
all_drop zero x h = h
all_drop (suc n) [] h = tt
all_drop (suc n) (b ∷ x) (h, hx) = all_drop n x hx

-- 32 bytes read as a hash are those bytes.
pub read_whole : {a y z : Bytes} → a ≡ take 32 y → length y ≡ 32 → y ≡ z → a ≡ z
read_whole {a} {y} e l f = e ∙ take_all 32 y (omega (arith, l)) ∙ f

-- The bytes of any hash are 32 bytes.
pub hash_whole : (h : Hash) → Whole32 (hash_bytes h)
unfolding hash_bytes
hash_whole h =
    let c = big 8 h.c ++ big 8 h.d in
    let b = big 8 h.b ++ c in (
      refl,
      all_append (big 8 h.a) b (bytes_big 8 h.a) (all_append (big 8 h.b) c (bytes_big 8 h.b)
          (all_append (big 8 h.c) (big 8 h.d) (bytes_big 8 h.c) (bytes_big 8 h.d))),
    )

eight : (x : Bytes) → length x ≡ 8 → All Byte x → big 8 (number x) ≡ x
eight x e h = ap (λ (n : ℕ). big n (number x)) (sym e) ∙ big_number x h

in_eights : (x : Bytes) → length x ≡ 32 → take 8 x ++ (take 8 (drop 8 x) ++ (take 8 (drop 16 x) ++ take 8 (drop 24 x))) ≡ x
in_eights x e =
    ap (λ (l : Bytes). take 8 x ++ l)
    (ap (λ (l : Bytes). take 8 (drop 8 x) ++ l)
    (ap (λ (l : Bytes). take 8 (drop 16 x) ++ l) (take_all 8 (drop 24 x) (simp length-drop (omega arith))) ∙ rest 16)
    ∙ rest 8)
    ∙ take-append-drop 8 x
  where
    rest : (n : ℕ) → take 8 (drop n x) ++ drop (n + 8) x ≡ drop n x
    rest n = rw (← drop-drop 8 n x) (take-append-drop 8 (drop n x))

pub hash_in_parts : (h : Hash) {p q r s : Bytes} → big 8 h.a ≡ p → big 8 h.b ≡ q → big 8 h.c ≡ r → big 8 h.d ≡ s
    → hash_bytes h ≡ p ++ (q ++ (r ++ s))
unfolding hash_bytes
hash_in_parts h = joined
  where
    joined : {p q r s p' q' r' s' : Bytes} → p ≡ p' → q ≡ q' → r ≡ r' → s ≡ s' → p ++ (q ++ (r ++ s)) ≡ p' ++ (q' ++ (r' ++ s'))
    joined hp hq hr hs = rw (hp, hq, hr, hs)

pub bytes_of_hash : (x : Bytes) → Whole32 x → hash_bytes (hash_of x) ≡ x
unfolding hash_of
bytes_of_hash x (e, h) =
    hash_in_parts (hash_of x) (part 0 (omega arith)) (part 8 (omega arith)) (part 16 (omega arith)) (part 24 (omega arith)) ∙ in_eights x e
  where
    part : (n : ℕ) → n + 8 ≤ 32 → big 8 (number (take 8 (drop n x))) ≡ take 8 (drop n x)
    part n f = eight (take 8 (drop n x)) (simp (length-take, length-drop) (omega arith)) (all_take 8 (drop n x) (all_drop n x h))

own : (x : ℕ) → x < 2 ^ 64 → number (big 8 x) ≡ x
own x h = number_big 8 x ∙ mod-eq_of_lt h

pub hash_of_bytes : (h : Hash) → Fits h → hash_of (hash_bytes h) ≡ h
unfolding hash_bytes hash_of
hash_of_bytes h f = rw (own h.a f.a_fits, own h.b f.b_fits, own h.c f.c_fits, own h.d f.d_fits)

pub hash_bytes_injective : (h g : Hash) → Fits h → Fits g → hash_bytes h ≡ hash_bytes g → h ≡ g
hash_bytes_injective h g fh fg e = sym (hash_of_bytes h fh) ∙ ap hash_of e ∙ hash_of_bytes g fg

pub same_hashes : (h g : Hash) → h.a ≡ g.a → h.b ≡ g.b → h.c ≡ g.c → h.d ≡ g.d → same_bytes (hash_bytes h) (hash_bytes g) ≡ true
unfolding hash_bytes
same_hashes h g ea eb ec ed = rw (ea, eb, ec, ed) (same_self (hash_bytes g))

pub other_hashes : (h g : Hash) → Fits h → Fits g → (h ≡ g → ⊥) → same_bytes (hash_bytes h) (hash_bytes g) ≡ false
other_hashes h g fh fg n = same_not (hash_bytes h) (hash_bytes g) (λ e. n (hash_bytes_injective h g fh fg e))

-- Two hashes are compared number by number.
pub same_by_numbers : (h g : Hash) → Fits h → Fits g → (t : Bool) → t ≡ (eqb h.a g.a && (eqb h.b g.b && (eqb h.c g.c && eqb h.d g.d))) → t ≡ same_bytes (hash_bytes h) (hash_bytes g)
same_by_numbers h g fh fg true e =
    let b = and_right (eqb h.a g.a) (eqb h.b g.b && (eqb h.c g.c && eqb h.d g.d)) (sym e) in
    let c = and_right (eqb h.b g.b) (eqb h.c g.c && eqb h.d g.d) b in
    sym (same_hashes h g (eqb-true h.a g.a (and_left (eqb h.a g.a) (eqb h.b g.b && (eqb h.c g.c && eqb h.d g.d)) (sym e)))
    (eqb-true h.b g.b (and_left (eqb h.b g.b) (eqb h.c g.c && eqb h.d g.d) b))
    (eqb-true h.c g.c (and_left (eqb h.c g.c) (eqb h.d g.d) c))
    (eqb-true h.d g.d (and_right (eqb h.c g.c) (eqb h.d g.d) c)))
same_by_numbers h g fh fg false e = sym (other_hashes h g fh fg (λ q. false≢true (e ∙ all q)))
  where
    all : h ≡ g → (eqb h.a g.a && (eqb h.b g.b && (eqb h.c g.c && eqb h.d g.d))) ≡ true
    all q =
        rw (eq-eqb h.a g.a (ap (λ (x : Hash). x.a) q), eq-eqb h.b g.b (ap (λ (x : Hash). x.b) q), eq-eqb h.c g.c (ap (λ (x : Hash). x.c) q), eq-eqb h.d g.d (ap (λ (x : Hash). x.d) q))

-- The eight bytes of a number, as the library divides them out.
pub big_eight : (x : ℕ) → x / 2 ^ 56 % 256 ∷ x / 2 ^ 48 % 256 ∷ x / 2 ^ 40 % 256 ∷ x / 2 ^ 32 % 256 ∷ x / 2 ^ 24 % 256 ∷ x / 2 ^ 16 % 256 ∷ x / 2 ^ 8 % 256 ∷ x % 256 ∷ [] ≡ big 8 x
big_eight x = rw (div-one x)

-- A part of a slice, lent and given back, was written in its place.
pub part_put : (at : ℕ) (f s : Bytes) → take at s ++ (f ++ drop (at + 8 - at) (drop at s)) ≡ take at s ++ (f ++ drop (at + 8) s)
part_put at f s = let k : at + (at + 8 - at) ≡ at + 8 = omega arith in rw (drop-drop (at + 8 - at) at s, k)

-- Four numbers one after another are the bytes of a hash.
pub four_puts : (h : Hash) (s s1 s2 s3 s4 : Bytes) → s1 ≡ take 0 s ++ (big 8 h.a ++ drop 8 s)
    → s2 ≡ take 8 s1 ++ (big 8 h.b ++ drop 16 s1) → s3 ≡ take 16 s2 ++ (big 8 h.c ++ drop 24 s2)
    → s4 ≡ take 24 s3 ++ (big 8 h.d ++ drop 32 s3) → s4 ≡ hash_bytes h ++ drop 32 s
unfolding hash_bytes
four_puts h s s1 s2 s3 s4 e1 e2 e3 e4 = rw (e4, e3, e2, e1, drop-drop 8 8 s, drop-drop 8 16 s, drop-drop 8 24 s)

pub number_of_words : (s : Bytes) (at : ℕ) → at + 8 ≤ length s → word_at s at * 2 ^ 32 + word_at s (at + 4) ≡ number (take 8 (drop at s))
number_of_words s at h =
    let l : Bytes = drop at s in
    let e : length (take 4 (drop 4 l)) ≡ 4 = simp (length-take, length-drop) (omega arith) in
    rw (word_number s at (omega arith), word_number s (at + 4) (omega arith), ← drop-drop 4 at s, take-add 4 4 l, number_append (take 4 l) (take 4 (drop 4 l)), e)

pub hash_of_numbers : (s : Bytes) (at : ℕ) {a b c d : ℕ} → at + 32 ≤ length s → a ≡ number (take 8 (drop at s))
    → b ≡ number (take 8 (drop (at + 8) s)) → c ≡ number (take 8 (drop (at + 16) s)) → d ≡ number (take 8 (drop (at + 24) s))
    → ◌≡◌ {A = Hash} (record { a = a; b = b; c = c; d = d }) (hash_of (take 32 (drop at s)))
unfolding hash_of
hash_of_numbers s at h ea eb ec ed =
    rw (ea, eb, ec, ed, take-take 8 32 (drop at s) (omega arith), inside 8 24 (omega arith) refl, inside 16 16 (omega arith) refl, inside 24 8 (omega arith) refl)
  where
    inside : (n m : ℕ) → 8 ≤ m → n + m ≡ 32 → take 8 (drop n (take 32 (drop at s))) ≡ take 8 (drop (at + n) s)
    inside n m g e =
        let l : Bytes = drop at s in
        let d : drop n (take 32 l) ≡ take m (drop n l) =
        ap (λ (k : ℕ). drop n (take k l)) (sym e) ∙ ap (λ (k : Bytes). drop n k) (take-add n m l)
        ∙ drop_at (take n l) (take m (drop n l)) n (simp (length-take, length-drop) (omega arith)) in
        rw (d, take-take 8 m (drop n l) g, drop-drop n at s)

pub whole_part : (s : Bytes) (at : ℕ) → at + 32 ≤ length s → ((i : ℕ) → get_or s i 0 < 256) → Whole32 (take 32 (drop at s))
whole_part s at h b = (simp (length-take, length-drop) (omega arith), all_take 32 (drop at s) (all_drop at s (all_bytes s b)))

-- A hash written over 32 bytes is all that is there.
pub put_over : (h : Hash) (s s' : Bytes) → length s ≡ 32 → s' ≡ hash_bytes h ++ drop 32 s → s' ≡ hash_bytes h
put_over h s s' f e = e ∙ rw (drop_of_length-le s {i = 32} (omega arith)) (append-nil (hash_bytes h))
