-- Varints and fields there and back: what is read from the front of bytes is what stands there, in its one form. Assumes nothing.
use Prim.Native.Nat.{ℕ, zero, suc, ◌+◌, ◌*◌, ◌-◌, ◌<◌, ◌≤◌, ◌/◌, ◌%◌, ◌^◌}
use native.Mathlib.Omega.{arith}
use native.Mathlib.Nat.{pow-suc}
use mathlib.Core.Path.{◌≡◌, refl, ap, ap₂, sym, ◌∙◌, subst}
use mathlib.Core.Bool.{Bool, true, false, cond, false≢true}
use mathlib.Core.List.{List, [], ◌∷◌, ◌++◌, append_assoc}
use mathlib.Core.Option.{Option, none, some, some-injective, none-ne-some}
use lib.ListN.{length, take, drop, length-append, take-append-drop}
use lib.Seq.{take-append_seam, drop-append_seam, length-take-le}
use lib.Dec.{ltb, leb, eqb}
use borrow.Author.Tests.{ltb-true, ltb-false, leb-true, eqb-true, lt-ltb, le-ltb, le-leb, eq-eqb, ne_eqb}
use Rattle.terms.specs.Bits.{Bytes, Byte, All}
use Rattle.terms.proofs.Lists.{all_take, all_drop}
use Rattle.messages.specs.Wire.{varint_in, varint, bytes_tag, message_field, bytes_field}
use Rattle.messages.specs.Reading.{onward, only_if, not_zero, below, varint_from, cut_from, field_from}

-- what went on was read, and what passed a test
pub onward_some : {A B : Type 0} (o : Option A) (f : A → Option B) (b : B) → onward o f ≡ some b → (a : A) × (o ≡ some a) × (f a ≡ some b)
unfolding onward
onward_some none f b e = absurd (none-ne-some b e)
onward_some (some a) f b e = (a, refl, e)

pub only_if_some : {A : Type 0} (t : Bool) (o : Option A) (a : A) → only_if t o ≡ some a → (t ≡ true) × (o ≡ some a)
unfolding only_if
only_if_some true o a e = (refl, e)
only_if_some false o a e = absurd (none-ne-some a e)

pub not_zero_lem : (x : ℕ) → 1 ≤ x → not_zero x ≡ true
unfolding not_zero
not_zero_lem x h = le-leb 1 x h

is_not_zero : (x : ℕ) → not_zero x ≡ true → 1 ≤ x
unfolding not_zero
is_not_zero x e = leb-true 1 x e

-- a varint that is written is read
pub varint_back : (n x : ℕ) (r : Bytes) → x < 128 ^ suc n → varint_from n (varint_in n x ++ r) ≡ some (x, r)
unfolding varint_in onward only_if
varint_back zero x r h = rw (lt-ltb x 128 (omega arith))
varint_back (suc n) x r h = go (ltb x 128) refl (varint_back n (x / 128) r (omega arith))
  where
    go : (b : Bool) → ltb x 128 ≡ b → varint_from n (varint_in n (x / 128) ++ r) ≡ some (x / 128, r) →
        varint_from (suc n) (cond b (x ∷ []) ((128 + x % 128) ∷ varint_in n (x / 128)) ++ r) ≡ some (x, r)
    go true e ih = rw e
    go false e ih =
        let g = ltb-false x 128 e in
        rw (le-ltb (128 + x % 128) 128 (omega arith), ih, not_zero_lem (x / 128) (omega arith)) (ap (λ k. some (k, r)) (omega arith))

low : (n : ℕ) → 128 ≤ 128 ^ suc (suc n)
low zero = omega arith
low (suc n) = omega (arith, low n, pow-suc 128 (suc (suc n)))

-- a varint by its first byte
last_byte : (b : ℕ) (m : Bytes) → b ∷ m ≡ varint_in zero b ++ m
unfolding varint_in
last_byte b m = refl

only_byte : (n b : ℕ) (m : Bytes) → ltb b 128 ≡ true → b ∷ m ≡ varint_in (suc n) b ++ m
unfolding varint_in
only_byte n b m t = rw t

more_bytes : (n b : ℕ) (m : Bytes) (x : ℕ) (r : Bytes) → b < 256 → 128 ≤ b → 1 ≤ x → m ≡ varint_in n x ++ r →
    b ∷ m ≡ varint_in (suc n) (b - 128 + 128 * x) ++ r
unfolding varint_in
more_bytes n b m x r c l k e =
    let d : 128 + (b - 128 + 128 * x) % 128 ≡ b = omega arith in
    let q : (b - 128 + 128 * x) / 128 ≡ x = omega arith in
    rw (le-ltb (b - 128 + 128 * x) 128 (omega arith), d, q) (ap (b ∷◌) e)

-- a varint that is read is written so
pub record VarintSaid (n : ℕ) (m : Bytes) (f : ℕ × Bytes) : Type 0 where
  pub is : m ≡ varint_in n f.0 ++ f.1
  pub small : f.0 < 128 ^ suc n
  pub after : All Byte f.1

pub varint_said : (n : ℕ) (m : Bytes) (f : ℕ × Bytes) → All Byte m → varint_from n m ≡ some f → VarintSaid n m f
varint_said n [] f h e = absurd (none-ne-some f e)
varint_said zero (b ∷ m) f h e =
    let w = only_if_some (ltb b 128) (some (b, m)) f e in
    let l = ltb-true b 128 w.0 in
    subst (VarintSaid zero (b ∷ m)) (some-injective (b, m) f w.1) (record { is = last_byte b m; small = omega arith; after = h.1 })
varint_said (suc n) (b ∷ m) f h e = go (ltb b 128) refl (λ g. varint_said n m g h.1) e
  where
    go : (t : Bool) → ltb b 128 ≡ t → ((g : ℕ × Bytes) → varint_from n m ≡ some g → VarintSaid n m g) →
        cond t (some (b, m)) (onward (varint_from n m) (below (b - 128))) ≡ some f →
        VarintSaid (suc n) (b ∷ m) f
    go true t said e =
        let l = ltb-true b 128 t in
        let k = low n in
        subst (VarintSaid (suc n) (b ∷ m)) (some-injective (b, m) f e) (record { is = only_byte n b m t; small = omega arith; after = h.1 })
    go false t said e =
        let q = onward_some (varint_from n m) (below (b - 128)) f e in
        let g = q.0 in
        let w = only_if_some (not_zero g.0) (some (b - 128 + 128 * g.0, g.1)) f q.2 in
        let ih = said g q.1 in
        let c : b < 256 = h.0 in
        let l = ltb-false b 128 t in
        let s = ih.small in
        subst (VarintSaid (suc n) (b ∷ m)) (some-injective (b - 128 + 128 * g.0, g.1) f w.1)
        (record {
          is = more_bytes n b m g.0 g.1 c l (is_not_zero g.0 w.0) ih.is;
          small = omega (arith, pow-suc 128 (suc n));
          after = ih.after;
        })

-- more room for bytes changes no varint that has enough
varint_deeper : (n j x : ℕ) → n ≤ j → x < 128 ^ suc n → varint_in j x ≡ varint_in n x
unfolding varint_in
varint_deeper zero zero x l h = refl
varint_deeper zero (suc j) x l h = rw (lt-ltb x 128 (omega arith))
varint_deeper (suc n) zero x l h = absurd (omega arith)
varint_deeper (suc n) (suc j) x l h =
    ap (λ t. cond (ltb x 128) (x ∷ []) ((128 + x % 128) ∷ t)) (varint_deeper n j (x / 128) (omega arith) (omega arith))

pub length_varint_in : (n x : ℕ) → length (varint_in n x) ≤ suc n
unfolding varint_in
length_varint_in zero x = omega arith
length_varint_in (suc n) x = go (ltb x 128) (length_varint_in n (x / 128))
  where
    go : (b : Bool) → length (varint_in n (x / 128)) ≤ suc n → length (cond b (x ∷ []) ((128 + x % 128) ∷ varint_in n (x / 128))) ≤ suc (suc n)
    go true ih = omega arith
    go false ih = omega arith

-- The numbers of fields whose tag is one byte.
abbrev pub Near : ℕ → Type 0
Near n = n ≤ 15

-- A length of at most three bytes.
abbrev pub Short : ℕ → Type 0
Short x = x < 128 ^ 3

pub varint_short : (x : ℕ) → Short x → varint x ≡ varint_in 2 x
unfolding varint
varint_short x h = varint_deeper 2 9 x (omega arith) h

-- a field from its front on
tag_is : (n : ℕ) → Near n → bytes_tag n ≡ (8 * n + 2) ∷ []
unfolding bytes_tag varint varint_in
tag_is n h = rw (lt-ltb (8 * n + 2) 128 (omega arith))

pub field_is : (n : ℕ) (x r : Bytes) → Near n → message_field n x ++ r ≡ (8 * n + 2) ∷ (varint (length x) ++ (x ++ r))
unfolding message_field
field_is n x r h = rw (tag_is n h) (ap ((8 * n + 2) ∷◌) (append_assoc (varint (length x)) x r))

pub field_back : (n : ℕ) (x r : Bytes) → Near n → Short (length x) → field_from n (message_field n x ++ r) ≡ some (x, r)
unfolding onward only_if
field_back n x r h l =
    rw (
      field_is n x r h,
      eq-eqb (8 * n + 2) (8 * n + 2) refl,
      varint_short (length x) l,
      varint_back 2 (length x) (x ++ r) l,
      le-leb (length x) (length (x ++ r)) (simp length-append (omega arith)),
      take-append_seam x r,
      drop-append_seam x r,
    )

-- What is said of bytes whose first field n is read.
pub record FieldSaid (n : ℕ) (m : Bytes) (f : Bytes × Bytes) : Type 0 where
  pub is : m ≡ message_field n f.0 ++ f.1
  pub inside : All Byte f.0
  pub after : All Byte f.1

pub field_said : (n : ℕ) (m : Bytes) (f : Bytes × Bytes) → Near n → All Byte m → field_from n m ≡ some f → FieldSaid n m f
field_said n [] f near h e = absurd (none-ne-some f e)
field_said n (b ∷ m) f near h e =
    let w = only_if_some (eqb b (8 * n + 2)) (onward (varint_from 2 m) cut_from) f e in
    let q = onward_some (varint_from 2 m) cut_from f w.1 in
    let g = q.0 in
    let v = varint_said 2 m g h.1 q.1 in
    let c = only_if_some (leb g.0 (length g.1)) (some (take g.0 g.1, drop g.0 g.1)) f q.2 in
    let l = length-take-le g.0 g.1 (leb-true g.0 (length g.1) c.0) in
    subst (FieldSaid n (b ∷ m)) (some-injective (take g.0 g.1, drop g.0 g.1) f c.1)
    (record {
      is =
          ap₂ ◌∷◌ (eqb-true b (8 * n + 2) w.0)
          (v.is ∙ ap (◌++ g.1) (sym (varint_short g.0 v.small)) ∙ ap₂ (λ k t. varint k ++ t) (sym l) (sym (take-append-drop g.0 g.1)))
          ∙ sym (field_is n (take g.0 g.1) (drop g.0 g.1) near);
      inside = all_take Byte g.0 g.1 v.after;
      after = all_drop Byte g.0 g.1 v.after;
    })

-- bytes that are not left out
pub bytes_field_is : (n : ℕ) (x : Bytes) → 1 ≤ length x → bytes_field n x ≡ message_field n x
unfolding bytes_field
bytes_field_is n x h = rw (ne_eqb (length x) 0 (λ z. omega arith))

-- a field's length, where its own takes k bytes more than one
pub length_field : (k n : ℕ) (x : Bytes) → k ≤ 9 → Near n → length x < 128 ^ suc k → length (message_field n x) ≤ 2 + k + length x
unfolding message_field varint
length_field k n x few near h =
    rw (tag_is n near)
    (simp length-append (omega (arith, length_varint_in k (length x), ap length (varint_deeper k 9 (length x) few h))))

pub no_bytes : (m : Bytes) → length m ≡ 0 → m ≡ []
no_bytes [] e = refl
no_bytes (b ∷ m) e = absurd (omega arith)
