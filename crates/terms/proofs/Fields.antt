-- Fields there and back: a number is the bytes that stand for it, and fields that fill a string are the string. Assumes nothing.
use Prim.Native.Nat.{ℕ, zero, suc, ◌+◌, ◌-◌, ◌<◌, ◌≤◌, ◌/◌, ◌^◌}
use native.Mathlib.Omega.{arith}
use mathlib.Core.Path.{◌≡◌, refl, ap, ap₂, sym, ◌∙◌}
use mathlib.Core.Bool.{Bool, true, false}
use mathlib.Core.List.{List, [], ◌∷◌, ◌++◌, append_assoc, append-nil}
use lib.ListN.{length, take, drop, take-append-drop, drop_of_length-le, length-append, length-take, length-drop, length-replicate}
use lib.Seq.{drop-drop, take-take, take-add, take_at, drop_at}
use lib.Dec.{eqb}
use native.Mathlib.Nat.{pow-suc, add-sub_cancel_left}
use borrow.Author.Tests.{eqb-true}
use Rattle.terms.specs.Bits.{Bytes, Byte, All}
use Rattle.terms.specs.Fields.{le, num, slice, field, zero_bytes, all_zero, flat, all_of}
use Rattle.terms.proofs.Tests.{and_left, and_right, and_true}
use Rattle.terms.proofs.Lists.{all_take, all_drop, drop_take}

pub le_num : (bs : Bytes) → All Byte bs → le (length bs) (num bs) ≡ bs
unfolding le
le_num [] h = refl
le_num (b ∷ bs) h = let k : b < 256 = h.0 in ap₂ ◌∷◌ (omega arith) (ap (le (length bs)) (omega arith) ∙ le_num bs h.1)

pub num_le : (n x : ℕ) → x < 256 ^ n → num (le n x) ≡ x
unfolding le
num_le zero x h = omega arith
num_le (suc n) x h = let e = num_le n (x / 256) (omega arith) in omega arith

pub length_le : (n x : ℕ) → length (le n x) ≡ n
unfolding le
length_le zero x = refl
length_le (suc n) x = ap suc (length_le n (x / 256))

pub num_below : (bs : Bytes) → All Byte bs → num bs < 256 ^ length bs
num_below [] h = omega arith
num_below (b ∷ bs) h = let k : b < 256 = h.0 in let l = num_below bs h.1 in omega (arith, pow-suc 256 (length bs))

pub length_slice : (i n : ℕ) (s : Bytes) → i + n ≤ length s → length (slice i n s) ≡ n
unfolding slice
length_slice i n s h = simp (length-take, length-drop) (omega arith)

pub all_slice : (i n : ℕ) (s : Bytes) → All Byte s → All Byte (slice i n s)
unfolding slice
all_slice i n s h = all_take Byte n (drop i s) (all_drop Byte i s h)

-- a number field holds the bytes of its number
pub le_field : (i n : ℕ) (s : Bytes) → i + n ≤ length s → All Byte s → le n (field i n s) ≡ slice i n s
unfolding field
le_field i n s h k = rw (length_slice i n s h) at (le_num (slice i n s) (all_slice i n s k))

pub field_below : (i n : ℕ) (s : Bytes) → i + n ≤ length s → All Byte s → field i n s < 256 ^ n
unfolding field
field_below i n s h k = rw (length_slice i n s h) at (num_below (slice i n s) (all_slice i n s k))

-- bytes that are all zero are zero bytes, and the other way round
pub zero_bytes_lem : (xs : Bytes) → all_zero xs ≡ true → xs ≡ zero_bytes (length xs)
unfolding zero_bytes
zero_bytes_lem [] h = refl
zero_bytes_lem (x ∷ xs) h =
    ap₂ ◌∷◌ (eqb-true x 0 (and_left (eqb x 0) (all_zero xs) h)) (zero_bytes_lem xs (and_right (eqb x 0) (all_zero xs) h))

pub all_zero_lem : (n : ℕ) → all_zero (zero_bytes n) ≡ true
unfolding zero_bytes
all_zero_lem zero = refl
all_zero_lem (suc n) = all_zero_lem n

-- the rest from i on is a slice and the rest after it
pub slice_rest : (i n : ℕ) (s : Bytes) → drop i s ≡ slice i n s ++ drop (i + n) s
unfolding slice
slice_rest i n s = sym (ap (take n (drop i s) ++◌) (sym (drop-drop n i s)) ∙ take-append-drop n (drop i s))

-- a field of a slice is a field of the whole
pub slice_slice : (i m j n : ℕ) (s : Bytes) → j + n ≤ m → slice j n (slice i m s) ≡ slice (i + j) n s
unfolding slice
slice_slice i m j n s h = rw (drop_take j m (drop i s), drop-drop j i s) (take-take n (m - j) (drop (i + j) s) (omega arith))

pub field_slice : (i m j n : ℕ) (s : Bytes) → j + n ≤ m → field j n (slice i m s) ≡ field (i + j) n s
unfolding field
field_slice i m j n s h = ap num (slice_slice i m j n s h)

-- the fields of given sizes from i on
abbrev pub cuts : List ℕ → ℕ → Bytes → List Bytes
cuts [] i s = []
cuts (n ∷ ns) i s = slice i n s ∷ cuts ns (i + n) s

abbrev pub total : List ℕ → ℕ
total [] = 0
total (n ∷ ns) = n + total ns

-- the fields that fill a string are the string
pub flat_cuts : (ns : List ℕ) (i : ℕ) (s : Bytes) → i + total ns ≡ length s → flat (cuts ns i s) ≡ drop i s
flat_cuts [] i s h = sym (drop_of_length-le s {i = i} (omega arith))
flat_cuts (n ∷ ns) i s h = ap (slice i n s ++◌) (flat_cuts ns (i + n) s (omega arith)) ∙ sym (slice_rest i n s)

-- the fields at the front of a string
pub flat_front : (ns : List ℕ) (i : ℕ) (s : Bytes) → flat (cuts ns i s) ≡ take (total ns) (drop i s)
unfolding slice
flat_front [] i s = refl
flat_front (n ∷ ns) i s = rw (flat_front ns (i + n) s, take-add n (total ns) (drop i s), drop-drop n i s)

pub all_of_tests : (ts : List Bool) → all_of ts ≡ true → All (λ t. t ≡ true) ts
unfolding all_of
all_of_tests [] h = tt
all_of_tests (t ∷ ts) h = (and_left t (all_of ts) h, all_of_tests ts (and_right t (all_of ts) h))

-- tests one by one: after one that passes the others decide, and one that fails decides
pub test_passed : {t : Bool} (ts : List Bool) → t ≡ true → all_of (t ∷ ts) ≡ all_of ts
unfolding all_of
test_passed ts e = rw e

pub test_failed : {t : Bool} (ts : List Bool) → t ≡ false → all_of (t ∷ ts) ≡ false
unfolding all_of
test_failed ts e = rw e

pub test_last : (t : Bool) → all_of (t ∷ []) ≡ t
unfolding all_of
test_last t = and_true t

pub tests_all : (ts : List Bool) → All (λ t. t ≡ true) ts → all_of ts ≡ true
unfolding all_of
tests_all [] h = refl
tests_all (t ∷ ts) h = rw (h.0, tests_all ts h.1)

-- fields of given sizes
abbrev pub Sized : List ℕ → List Bytes → Type 0
Sized [] [] = Unit {0}
Sized [] (f ∷ fs) = ⊥
Sized (n ∷ ns) [] = ⊥
Sized (n ∷ ns) (f ∷ fs) = (length f ≡ n) × Sized ns fs

pub slice_between : (xs f ys : Bytes) (i n : ℕ) → length xs ≡ i → length f ≡ n → slice i n (xs ++ (f ++ ys)) ≡ f
unfolding slice
slice_between xs f ys i n e h = rw (drop_at xs (f ++ ys) i e) (take_at f ys n h)

-- the fields of a string that begins with fields are those
cuts_after : (ns : List ℕ) (fs : List Bytes) (xs ys : Bytes) (i : ℕ) → length xs ≡ i → Sized ns fs → cuts ns i (xs ++ (flat fs ++ ys)) ≡ fs
cuts_after [] [] xs ys i e h = refl
cuts_after [] (f ∷ fs) xs ys i e h = absurd h
cuts_after (n ∷ ns) [] xs ys i e h = absurd h
cuts_after (n ∷ ns) (f ∷ fs) xs ys i e h =
    let l = h.0 in
    rw (append_assoc f (flat fs) ys)
    (ap₂ ◌∷◌ (slice_between xs f (flat fs ++ ys) i n e l)
    (ap (cuts ns (i + n)) (sym (append_assoc xs f (flat fs ++ ys))) ∙ cuts_after ns fs (xs ++ f) ys (i + n) (simp length-append (omega arith)) h.1))

pub cuts_front : (ns : List ℕ) (fs : List Bytes) (ys : Bytes) → Sized ns fs → cuts ns 0 (flat fs ++ ys) ≡ fs
cuts_front ns fs ys h = cuts_after ns fs [] ys 0 refl h

pub cuts_flat : (ns : List ℕ) (fs : List Bytes) → Sized ns fs → cuts ns 0 (flat fs) ≡ fs
cuts_flat ns fs h = ap (cuts ns 0) (sym (append-nil (flat fs))) ∙ cuts_front ns fs [] h

pub length_flat : (ns : List ℕ) (fs : List Bytes) → Sized ns fs → length (flat fs) ≡ total ns
length_flat [] [] h = refl
length_flat [] (f ∷ fs) h = absurd h
length_flat (n ∷ ns) [] h = absurd h
length_flat (n ∷ ns) (f ∷ fs) h = let l = h.0 in simp length-append (omega (arith, length_flat ns fs h.1))

pub flat_append : (fs gs : List Bytes) → flat (fs ++ gs) ≡ flat fs ++ flat gs
flat_append [] gs = refl
flat_append (f ∷ fs) gs = rw (flat_append fs gs) (sym (append_assoc f (flat fs) (flat gs)))

pub length_zero_bytes : (n : ℕ) → length (zero_bytes n) ≡ n
unfolding zero_bytes
length_zero_bytes n = length-replicate n 0

-- a part of a lent slice
pub part_slice : (i n : ℕ) (s : Bytes) → take (i + n - i) (drop i s) ≡ slice i n s
unfolding slice
part_slice i n s = rw (add-sub_cancel_left i n)

-- what follows the first fields
pub drop_fields : (ns : List ℕ) (fs gs : List Bytes) → Sized ns fs → drop (total ns) (flat (fs ++ gs)) ≡ flat gs
drop_fields ns fs gs h = ap (drop (total ns)) (flat_append fs gs) ∙ drop_at (flat fs) (flat gs) (total ns) (length_flat ns fs h)
