-- Headers there and back: the bytes of a header are read as what they were made of, and a header that is accepted is its own bytes. The
-- length fixes the number of slots. Assumes nothing.
use Prim.Native.Nat.{ℕ, suc, ◌+◌, ◌*◌, ◌-◌, ◌<◌, ◌≤◌, ◌/◌, ◌%◌}
use native.Mathlib.Omega.{arith}
use mathlib.Core.Path.{◌≡◌, refl, ap, sym, ◌∙◌}
use mathlib.Core.Logic.{◌⊎◌, inl, inr}
use mathlib.Core.Bool.{Bool, true, false, cond}
use mathlib.Core.List.{List, [], ◌∷◌, ◌++◌, append_assoc}
use lib.ListN.{length, get_or, take, length-append}
use lib.Dec.{eqb}
use borrow.Author.Tests.{eqb-true, eqb-false, eq-eqb, leb-true, le-leb}
use Rattle.terms.specs.declared.Form.{Form}
use Rattle.terms.specs.declared.Form.TheVariants.{Plain as plain, Counted as counted}
use Rattle.terms.specs.Bits.{Bytes, Byte, All}
use Rattle.terms.specs.Fields.{le, num, field, slice, zero_bytes, all_zero, flat}
use Rattle.terms.specs.Form.{top32}
use Rattle.terms.proofs.Tests.{is_false}
use Rattle.terms.proofs.Fields.{num_le, length_le, le_field, length_slice, zero_bytes_lem, all_zero_lem, cuts, flat_front, all_of_tests, tests_all, Sized, total, cuts_front, length_flat, flat_append, length_zero_bytes}
use Rattle.fields.specs.Written.{written}
use Rattle.fields.proofs.Written.{fields_written_lem, written_between}
use Rattle.layout.specs.Sizes.{header_kind, slot_size, room_of, slot_at}
use Rattle.layout.specs.Slots.{SlotLong}
use Rattle.layout.specs.Headers.{refusal, header, size_right, header_right, header_of, header_bytes}

-- a slot has 120 or 128 bytes
pub size_small : (fm : Form) → (120 ≤ slot_size fm) × (slot_size fm ≤ 128)
size_small plain = (omega arith, omega arith)
size_small counted = (omega arith, omega arith)

pub size_long : (fm : Form) (x : Bytes) → length x ≡ slot_size fm → SlotLong x
size_long fm x e = let t = size_small fm in (omega arith, omega arith)

-- the slots before another end before it begins
pub slot_before : (fm : Form) (i n : ℕ) → i < n → slot_at fm i + slot_size fm ≤ slot_at fm n
slot_before plain i n h = omega arith
slot_before counted i n h = omega arith

-- and where a slot begins tells which it is
pub slot_one : (fm : Form) (i j : ℕ) → slot_at fm i ≡ slot_at fm j → i ≡ j
slot_one plain i j e = omega arith
slot_one counted i j e = omega arith

pub slot_after : (fm : Form) (i : ℕ) → slot_size fm + slot_size fm * i ≡ slot_size fm * suc i
slot_after plain i = omega arith
slot_after counted i = omega arith

kind_small : (fm : Form) → header_kind fm < 65536
kind_small plain = omega arith
kind_small counted = omega arith

-- a store of 24 + 120n or 24 + 128n bytes has n slots
pub room_of_lem : (fm : Form) (m n : ℕ) → m ≡ 24 + slot_size fm * n → room_of fm m ≡ n
unfolding room_of
room_of_lem plain m n e = omega arith
room_of_lem counted m n e = omega arith

-- as the code divides
pub room_by : (fm : Form) (m : ℕ) {z : ℕ} → z ≡ slot_size fm → (m - 24) / z ≡ room_of fm m
unfolding room_of
room_by fm m e = ap (λ y. (m - 24) / y) e

-- the size is right exactly if it is 24 + 120n, n in 1 to 16,384
pub size_right_of : (fm : Form) (m n : ℕ) → m ≡ 24 + slot_size fm * n → 1 ≤ n → n ≤ 16384 → size_right fm m ≡ true
unfolding size_right
size_right_of fm m n e some fits =
    let r = room_of_lem fm m n e in
    tests_all _ (
      eq-eqb m (24 + slot_size fm * room_of fm m) (rw r e),
      (le-leb 1 (room_of fm m) (rw r some), (le-leb (room_of fm m) 16384 (rw r fits), tt)),
    )

abbrev sizes : List ℕ
sizes = 4 ∷ 2 ∷ 2 ∷ 4 ∷ 4 ∷ 4 ∷ 4 ∷ []

abbrev fields : Form → ℕ → ℕ → ℕ → List Bytes
fields fm n o l = le 4 24 ∷ le 2 (header_kind fm) ∷ zero_bytes 2 ∷ le 4 n ∷ le 4 o ∷ le 4 l ∷ zero_bytes 4 ∷ []

sized : (fm : Form) (n o l : ℕ) → Sized sizes (fields fm n o l)
sized fm n o l = (length_le 4 _, (length_le 2 _, (length_zero_bytes 2, (length_le 4 n, (length_le 4 o, (length_le 4 l, (length_zero_bytes 4, tt)))))))

zero_two : le 2 0 ≡ zero_bytes 2
unfolding le zero_bytes
zero_two = refl

zero_four : le 4 0 ≡ zero_bytes 4
unfolding le zero_bytes
zero_four = refl

pub length_header : (fm : Form) (n o l : ℕ) → length (header_bytes fm n o l) ≡ 24
unfolding header_bytes
length_header fm n o l = length_flat sizes (fields fm n o l) (sized fm n o l)

-- the header's fields, written one after the other
pub header_put : (fm : Form) {a b c d e f g : Bytes} {k : ℕ} (n o l : ℕ) (s : Bytes) → 24 ≤ length s → k ≡ header_kind fm → a ≡ written 0 (le 4 24) s → b ≡ written 4 (le 2 k) a → c ≡ written 6 (le 2 0) b →
    d ≡ written 8 (le 4 n) c → e ≡ written 12 (le 4 o) d → f ≡ written 16 (le 4 l) e → g ≡ written 20 (le 4 0) f → g ≡ written 0 (header_bytes fm n o l) s
unfolding header_bytes
header_put fm n o l s h kind p q r t u v w = rw (w, v, u, t, r, q, p, kind, zero_two, zero_four) (fields_written_lem sizes 0 (fields fm n o l) s (sized fm n o l) h)

-- fields and what follows them, cut around one of them
around : (front : List Bytes) (x : Bytes) (rest : List Bytes) (xs : Bytes) → flat (front ++ x ∷ rest) ++ xs ≡ flat front ++ (x ++ (flat rest ++ xs))
around front x rest xs =
    ap (◌++ xs) (flat_append front (x ∷ rest))
    ∙ append_assoc (flat front) (x ++ flat rest) xs
    ∙ ap (flat front ++◌) (append_assoc x (flat rest) xs)

-- another number, written in its place
number_put : (ns : List ℕ) (front : List Bytes) (n m : ℕ) (rest : List Bytes) (xs : Bytes) → Sized ns front →
    flat (front ++ le 4 m ∷ rest) ++ xs ≡ written (total ns) (le 4 m) (flat (front ++ le 4 n ∷ rest) ++ xs)
number_put ns front n m rest xs h =
    around front (le 4 m) rest xs
    ∙ sym (written_between (flat front) (le 4 n) (flat rest ++ xs) (le 4 m) (total ns) (length_flat ns front h) (length_le 4 m ∙ sym (length_le 4 n)))
    ∙ ap (written (total ns) (le 4 m)) (sym (around front (le 4 n) rest xs))

-- another oldest, and another latest
module _ (fm : Form) (n o l q : ℕ) (xs : Bytes) where
  pub oldest_put : header_bytes fm n q l ++ xs ≡ written 12 (le 4 q) (header_bytes fm n o l ++ xs)
  unfolding header_bytes
  oldest_put =
      number_put (4 ∷ 2 ∷ 2 ∷ 4 ∷ []) (le 4 24 ∷ le 2 (header_kind fm) ∷ zero_bytes 2 ∷ le 4 n ∷ []) o q (le 4 l ∷ zero_bytes 4 ∷ []) xs
      (length_le 4 _, (length_le 2 _, (length_zero_bytes 2, (length_le 4 n, tt))))

  pub latest_put : header_bytes fm n o q ++ xs ≡ written 16 (le 4 q) (header_bytes fm n o l ++ xs)
  unfolding header_bytes
  latest_put =
      number_put (4 ∷ 2 ∷ 2 ∷ 4 ∷ 4 ∷ []) (le 4 24 ∷ le 2 (header_kind fm) ∷ zero_bytes 2 ∷ le 4 n ∷ le 4 o ∷ []) l q (zero_bytes 4 ∷ []) xs
      (length_le 4 _, (length_le 2 _, (length_zero_bytes 2, (length_le 4 n, (length_le 4 o, tt)))))

-- bytes that begin with those of a header, and are as many as it says
module _ (fm : Form) (s : Bytes) (n o l : ℕ) (xs : Bytes) (is : s ≡ header_bytes fm n o l ++ xs) (long : length xs ≡ slot_size fm * n) where
  cut : (k : ℕ) → get_or (cuts sizes 0 s) k [] ≡ get_or (fields fm n o l) k []
  unfolding header_bytes
  cut k = ap (λ f. get_or (cuts sizes 0 f) k []) is ∙ ap (λ f. get_or f k []) (cuts_front sizes (fields fm n o l) xs (sized fm n o l))

  size_is : length s ≡ 24 + slot_size fm * n
  size_is = ap length is ∙ simp length-append (omega (arith, length_header fm n o l))

  number_is : (i x : ℕ) → x ≤ top32 → slice i 4 s ≡ le 4 x → field i 4 s ≡ x
  unfolding field
  number_is i x h e = ap num e ∙ num_le 4 x (omega arith)

  kind_is : field 4 2 s ≡ header_kind fm
  unfolding field
  kind_is = ap num (cut 1) ∙ num_le 2 _ (kind_small fm)

  module _ (some : 1 ≤ n) (fits : n ≤ 16384) (ordered : o ≤ l) (number : l ≤ top32) where
    capacity_is : field 8 4 s ≡ n
    capacity_is = number_is 8 n (omega arith) (cut 3)

    oldest_is : field 12 4 s ≡ o
    oldest_is = number_is 12 o (omega arith) (cut 4)

    latest_is : field 16 4 s ≡ l
    latest_is = number_is 16 l number (cut 5)

    header_right_lem : header_right fm s ≡ true
    unfolding header_right
    header_right_lem =
        tests_all _ (
          eq-eqb (field 0 4 s) 24 (number_is 0 24 (omega arith) (cut 0)),
          (
            eq-eqb (field 4 2 s) (header_kind fm) kind_is,
            (
              ap all_zero (cut 2) ∙ all_zero_lem 2,
              (
                eq-eqb (field 8 4 s) (room_of fm (length s)) (capacity_is ∙ sym (room_of_lem fm (length s) n size_is)),
                (
                  le-leb (field 12 4 s) (field 16 4 s) (rw (oldest_is, latest_is) ordered),
                  (ap all_zero (cut 6) ∙ all_zero_lem 4, tt),
                ),
              ),
            ),
          ),
        )

    -- they are accepted, with what the header was made of
    pub header_said : header_of fm s ≡ header n o l
    unfolding header_of
    header_said = rw (size_right_of fm (length s) n size_is some fits, header_right_lem, capacity_is, oldest_is, latest_is)

-- what an accepted header says of its bytes
pub record Accepted (fm : Form) (s : Bytes) (n o l : ℕ) : Type 0 where
  pub size : length s ≡ 24 + slot_size fm * n
  pub some : 1 ≤ n
  pub fits : n ≤ 16384
  pub ordered : o ≤ l
  pub right : header_right fm s ≡ true
  pub capacity : field 8 4 s ≡ n
  pub oldest : field 12 4 s ≡ o
  pub latest : field 16 4 s ≡ l

pub size_says : (fm : Form) (m : ℕ) → size_right fm m ≡ true → (m ≡ 24 + slot_size fm * room_of fm m) × (1 ≤ room_of fm m) × (room_of fm m ≤ 16384)
unfolding size_right
size_says fm m e = let t = all_of_tests _ e in (eqb-true m (24 + slot_size fm * room_of fm m) t.0, leb-true 1 (room_of fm m) t.1.0, leb-true (room_of fm m) 16384 t.1.1.0)

-- so it ends where a slot more would begin
pub size_ends : (fm : Form) (m : ℕ) → size_right fm m ≡ true → m ≡ slot_at fm (room_of fm m)
size_ends fm m e = (size_says fm m e).0

pub size_least : (fm : Form) (m : ℕ) → size_right fm m ≡ true → 24 + slot_size fm ≤ m
size_least plain m e = let t = size_says plain m e in omega arith
size_least counted m e = let t = size_says counted m e in omega arith

pub size_most : (fm : Form) (m : ℕ) → size_right fm m ≡ true → m ≤ 24 + slot_size fm * 16384
size_most plain m e = let t = size_says plain m e in omega arith
size_most counted m e = let t = size_says counted m e in omega arith

-- the same, as the code tests it
module _ (fm : Form) (m : ℕ) {z : ℕ} (is : z ≡ slot_size fm) where
  pub size_low : m < 24 + z → false ≡ size_right fm m
  size_low h = sym (is_false (size_right fm m) (λ e. omega (arith, size_least fm m e)))

  pub size_high : 24 + z * 16384 < m → false ≡ size_right fm m
  size_high h = sym (is_false (size_right fm m) (λ e. omega (arith, size_most fm m e)))

rest_right : (fm : Form) (m : ℕ) → 24 + slot_size fm ≤ m → m ≤ 24 + slot_size fm * 16384 → (m - 24) % slot_size fm ≡ 0 → size_right fm m ≡ true
rest_right plain m h k z = size_right_of plain m ((m - 24) / 120) (omega arith) (omega arith) (omega arith)
rest_right counted m h k z = size_right_of counted m ((m - 24) / 128) (omega arith) (omega arith) (omega arith)

right_rest : (fm : Form) (m : ℕ) → size_right fm m ≡ true → (m - 24) % slot_size fm ≡ 0
right_rest plain m e = let t = size_says plain m e in omega arith
right_rest counted m e = let t = size_says counted m e in omega arith

pub size_whole : (fm : Form) (m : ℕ) {z : ℕ} → z ≡ slot_size fm → 24 + z ≤ m → m ≤ 24 + z * 16384 → eqb ((m - 24) % z) 0 ≡ size_right fm m
size_whole fm m {z} is h k = go (eqb ((m - 24) % z) 0) refl
  where
    go : (t : Bool) → eqb ((m - 24) % z) 0 ≡ t → t ≡ size_right fm m
    go true e = sym (rest_right fm m (omega arith) (omega arith) (ap (λ y. (m - 24) % y) (sym is) ∙ eqb-true ((m - 24) % z) 0 e))
    go false e = sym (is_false (size_right fm m) (λ d. eqb-false ((m - 24) % z) 0 e (ap (λ y. (m - 24) % y) is ∙ right_rest fm m d)))

bounds_say : (fm : Form) (s : Bytes) → header_right fm s ≡ true → (field 8 4 s ≡ room_of fm (length s)) × (field 12 4 s ≤ field 16 4 s)
unfolding header_right
bounds_say fm s e =
    let t = all_of_tests _ e in
    (eqb-true (field 8 4 s) (room_of fm (length s)) t.1.1.1.0, leb-true (field 12 4 s) (field 16 4 s) t.1.1.1.1.0)

-- an accepted header passed every test
pub accepted : {fm : Form} (s : Bytes) (n o l : ℕ) → header_of fm s ≡ header n o l → Accepted fm s n o l
unfolding header_of
accepted {fm} s n o l = go (size_right fm (length s)) (header_right fm s) refl refl
  where
    go : (a b : Bool) → size_right fm (length s) ≡ a → header_right fm s ≡ b →
        cond a (cond b (header (field 8 4 s) (field 12 4 s) (field 16 4 s)) (refusal 2)) (refusal 1) ≡ header n o l → Accepted fm s n o l
    go false b d e f = let z : ◌≡◌ {A = ℕ} 0 1 = cc in absurd (omega arith)
    go true false d e f = let z : ◌≡◌ {A = ℕ} 0 1 = cc in absurd (omega arith)
    go true true d e f =
        let c : field 8 4 s ≡ n = cc in
        let o' : field 12 4 s ≡ o = cc in
        let l' : field 16 4 s ≡ l = cc in
        let t = size_says fm (length s) d in
        let u = bounds_say fm s e in
        record {
          size = t.0 ∙ ap (λ k. 24 + slot_size fm * k) (sym u.0 ∙ c);
          some = omega arith;
          fits = omega arith;
          ordered = omega arith;
          right = e;
          capacity = c;
          oldest = o';
          latest = l';
        }

-- a header is refused with 1 or 2
pub header_refused : (fm : Form) (s : Bytes) (n : ℕ) → header_of fm s ≡ refusal n → (n ≡ 1) ⊎ (n ≡ 2)
unfolding header_of
header_refused fm s n = go (size_right fm (length s)) (header_right fm s)
  where
    go : (a b : Bool) → cond a (cond b (header (field 8 4 s) (field 12 4 s) (field 16 4 s)) (refusal 2)) (refusal 1) ≡ refusal n → (n ≡ 1) ⊎ (n ≡ 2)
    go false b e = inl (cc)
    go true false e = inr (cc)
    go true true e = let z : ◌≡◌ {A = ℕ} 0 1 = cc in absurd (omega arith)

zero_back : (i n : ℕ) (s : Bytes) → i + n ≤ length s → all_zero (slice i n s) ≡ true → zero_bytes n ≡ slice i n s
zero_back i n s h e = ap zero_bytes (sym (length_slice i n s h)) ∙ sym (zero_bytes_lem (slice i n s) e)

-- an accepted header is its own bytes
pub header_back : {fm : Form} (s : Bytes) (n o l : ℕ) → All Byte s → Accepted fm s n o l → header_bytes fm n o l ≡ take 24 s
unfolding header_bytes header_right
header_back {fm} s n o l h a =
    let t = all_of_tests _ a.right in
    let k = a.size in
    let e : fields fm n o l ≡ cuts sizes 0 s =
    rw (
      ← eqb-true (field 0 4 s) 24 t.0,
      ← eqb-true (field 4 2 s) (header_kind fm) t.1.0,
      ← a.capacity,
      ← a.oldest,
      ← a.latest,
      zero_back 6 2 s (omega arith) t.1.1.0,
      zero_back 20 4 s (omega arith) t.1.1.1.1.1.0,
      le_field 0 4 s (omega arith) h,
      le_field 4 2 s (omega arith) h,
      le_field 8 4 s (omega arith) h,
      le_field 12 4 s (omega arith) h,
      le_field 16 4 s (omega arith) h,
    )
    in
    ap flat e ∙ flat_front sizes 0 s
