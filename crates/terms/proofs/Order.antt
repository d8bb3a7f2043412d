-- The order of keys is the order of their bits, and it is a strict total order: the first byte that differs decides, and in it the first
-- bit that differs. Assumes nothing.
use Prim.Native.Nat.{ℕ, zero, suc, ◌+◌, ◌<◌, ◌^◌, ◌/◌, ◌%◌}
use native.Mathlib.Omega.{arith}
use mathlib.Core.Path.{◌≡◌, refl, ap₂, sym, ◌∙◌}
use mathlib.Core.Logic.{◌⊎◌, inl, inr}
use mathlib.Core.Bool.{Bool, true, false, not, ◌&&◌, ◌||◌, beq, true≢false, false≢true}
use mathlib.Core.List.{List, [], ◌∷◌, ◌++◌, append_assoc}
use lib.ListN.{length, get_or}
use lib.Dec.{ltb, eqb}
use borrow.Author.Tests.{ltb-true, ltb-false, eqb-true, eqb-false, lt-ltb, le-ltb, eq-eqb, ne_eqb}
use Rattle.terms.specs.Bits.{Bytes, Byte, left, right, Place, longer, All, bits, byte_bits, odd, prefix, begins, before}
use Rattle.terms.proofs.Tests.{is_false}

-- the order of bit strings
abbrev pub lex : List Bool → List Bool → Bool
lex [] [] = false
lex [] (b ∷ bs) = true
lex (a ∷ as') [] = false
lex (a ∷ as') (b ∷ bs) = (not a && b) || (beq a b && lex as' bs)

-- the w low bits of a number, the top one first
abbrev pub low : ℕ → ℕ → List Bool
low zero x = []
low (suc w) x = low w (x / 2) ++ (odd x ∷ [])

abbrev step : Bool → Bool → Bool → Bool
step l e r = l || (e && r)

-- one bit more at the low end
low_bits : (x y : ℕ) (r : Bool) → x / 2 ≡ y / 2 → (a b : Bool) → eqb (x % 2) 1 ≡ a → eqb (y % 2) 1 ≡ b →
    ((not a && b) || (beq a b && r)) ≡ step (ltb x y) (eqb x y) r
low_bits x y r h true true p q =
    let u = eqb-true (x % 2) 1 p in let w = eqb-true (y % 2) 1 q in
    rw (le-ltb x y (omega arith), eq-eqb x y (omega arith))
low_bits x y r h true false p q =
    let u = eqb-true (x % 2) 1 p in let w = eqb-false (y % 2) 1 q in
    rw (le-ltb x y (omega arith), ne_eqb x y (omega arith))
low_bits x y r h false true p q =
    let u = eqb-false (x % 2) 1 p in let w = eqb-true (y % 2) 1 q in
    rw (lt-ltb x y (omega arith))
low_bits x y r h false false p q =
    let u = eqb-false (x % 2) 1 p in let w = eqb-false (y % 2) 1 q in
    rw (le-ltb x y (omega arith), eq-eqb x y (omega arith))

low_halves : (x y : ℕ) (r : Bool) (a b : Bool) → ltb (x / 2) (y / 2) ≡ a → eqb (x / 2) (y / 2) ≡ b →
    step a b ((not (odd x) && odd y) || (beq (odd x) (odd y) && r)) ≡ step (ltb x y) (eqb x y) r
unfolding odd
low_halves x y r true b e d = let u = ltb-true (x / 2) (y / 2) e in rw (lt-ltb x y (omega arith))
low_halves x y r false true e d = low_bits x y r (eqb-true (x / 2) (y / 2) d) _ _ refl refl
low_halves x y r false false e d =
    let u = ltb-false (x / 2) (y / 2) e in let w = eqb-false (x / 2) (y / 2) d in
    rw (le-ltb x y (omega arith), ne_eqb x y (omega arith))

-- numbers of w bits, in the order of their bits
low_lex : (w x y : ℕ) (r s : List Bool) → x < 2 ^ w → y < 2 ^ w → lex (low w x ++ r) (low w y ++ s) ≡ step (ltb x y) (eqb x y) (lex r s)
low_lex zero x y r s hx hy = rw (le-ltb x y (omega arith), eq-eqb x y (omega arith))
low_lex (suc w) x y r s hx hy =
    ap₂ lex (append_assoc (low w (x / 2)) _ r) (append_assoc (low w (y / 2)) _ s)
    ∙ low_lex w (x / 2) (y / 2) (odd x ∷ r) (odd y ∷ s) (omega arith) (omega arith)
    ∙ low_halves x y (lex r s) _ _ refl refl

-- the bits of a byte are its eight low bits
pub byte_bits_low : (x : ℕ) → byte_bits x ≡ low 8 x
unfolding byte_bits
byte_bits_low x =
    let a : x / 2 / 2 ≡ x / 4 = omega arith in
    let b : x / 4 / 2 ≡ x / 8 = omega arith in
    let c : x / 8 / 2 ≡ x / 16 = omega arith in
    let d : x / 16 / 2 ≡ x / 32 = omega arith in
    let e : x / 32 / 2 ≡ x / 64 = omega arith in
    let f : x / 64 / 2 ≡ x / 128 = omega arith in
    simp (a, b, c, d, e, f)

-- byte strings in the order of their bits
pub before_lex : (xs ys : Bytes) → All Byte xs → All Byte ys → before xs ys ≡ lex (bits xs) (bits ys)
before_lex [] [] h k = refl
before_lex [] (y ∷ ys) h k = rw (byte_bits_low y)
before_lex (x ∷ xs) [] h k = rw (byte_bits_low x)
before_lex (x ∷ xs) (y ∷ ys) h k = rw (byte_bits_low x, byte_bits_low y, before_lex xs ys h.1 k.1) (sym (low_lex 8 x y (bits xs) (bits ys) h.0 k.0))

-- two strings that begin with p, in order: where the first goes on with 1, so does the second
pub lex_mono : (p : Place) (as' bs : List Bool) → prefix p as' ≡ true → prefix p bs ≡ true → lex as' bs ≡ true → get_or as' (length p) false ≡ true → get_or bs (length p) false ≡ true
lex_mono [] [] bs u w l h = absurd (false≢true h)
lex_mono [] (a ∷ as') [] u w l h = absurd (false≢true l)
lex_mono [] (true ∷ as') (true ∷ bs) u w l h = refl
lex_mono [] (true ∷ as') (false ∷ bs) u w l h = absurd (false≢true l)
lex_mono [] (false ∷ as') (b ∷ bs) u w l h = absurd (false≢true h)
lex_mono (x ∷ p) [] bs u w l h = absurd (false≢true u)
lex_mono (x ∷ p) (a ∷ as') [] u w l h = absurd (false≢true w)
lex_mono (true ∷ p) (true ∷ as') (true ∷ bs) u w l h = lex_mono p as' bs u w l h
lex_mono (true ∷ p) (true ∷ as') (false ∷ bs) u w l h = absurd (false≢true w)
lex_mono (true ∷ p) (false ∷ as') (b ∷ bs) u w l h = absurd (false≢true u)
lex_mono (false ∷ p) (false ∷ as') (false ∷ bs) u w l h = lex_mono p as' bs u w l h
lex_mono (false ∷ p) (false ∷ as') (true ∷ bs) u w l h = absurd (false≢true w)
lex_mono (false ∷ p) (true ∷ as') (b ∷ bs) u w l h = absurd (false≢true u)

-- two strings that are all of p are not in order
pub lex_whole : (p : Place) (as' bs : List Bool) → prefix p as' ≡ true → prefix p bs ≡ true → length as' ≡ length p → length bs ≡ length p → lex as' bs ≡ true → ⊥
lex_whole [] [] [] u w x y l = false≢true l
lex_whole [] [] (b ∷ bs) u w x y l = omega arith
lex_whole [] (a ∷ as') bs u w x y l = omega arith
lex_whole (q ∷ p) [] bs u w x y l = false≢true u
lex_whole (q ∷ p) (a ∷ as') [] u w x y l = false≢true w
lex_whole (true ∷ p) (true ∷ as') (true ∷ bs) u w x y l = lex_whole p as' bs u w (omega arith) (omega arith) l
lex_whole (true ∷ p) (true ∷ as') (false ∷ bs) u w x y l = false≢true w
lex_whole (true ∷ p) (false ∷ as') (b ∷ bs) u w x y l = false≢true u
lex_whole (false ∷ p) (false ∷ as') (false ∷ bs) u w x y l = lex_whole p as' bs u w (omega arith) (omega arith) l
lex_whole (false ∷ p) (false ∷ as') (true ∷ bs) u w x y l = false≢true w
lex_whole (false ∷ p) (true ∷ as') (b ∷ bs) u w x y l = false≢true u

-- of two strings that begin with p, one that goes on with 0 comes before one that goes on with 1
pub lex_sides : (p : Place) (as' bs : List Bool) → prefix (longer left p) as' ≡ true → prefix (longer right p) bs ≡ true → lex as' bs ≡ true
unfolding longer
lex_sides [] [] bs h k = absurd (false≢true h)
lex_sides [] (true ∷ as') bs h k = absurd (false≢true h)
lex_sides [] (false ∷ as') [] h k = absurd (false≢true k)
lex_sides [] (false ∷ as') (true ∷ bs) h k = refl
lex_sides [] (false ∷ as') (false ∷ bs) h k = absurd (false≢true k)
lex_sides (x ∷ p) [] bs h k = absurd (false≢true h)
lex_sides (x ∷ p) (a ∷ as') [] h k = absurd (false≢true k)
lex_sides (true ∷ p) (true ∷ as') (true ∷ bs) h k = lex_sides p as' bs h k
lex_sides (true ∷ p) (true ∷ as') (false ∷ bs) h k = absurd (false≢true k)
lex_sides (true ∷ p) (false ∷ as') (b ∷ bs) h k = absurd (false≢true h)
lex_sides (false ∷ p) (false ∷ as') (false ∷ bs) h k = lex_sides p as' bs h k
lex_sides (false ∷ p) (false ∷ as') (true ∷ bs) h k = absurd (false≢true k)
lex_sides (false ∷ p) (true ∷ as') (b ∷ bs) h k = absurd (false≢true h)

-- of two keys that part at a place, the one that goes on to the left comes before the one that goes on to the right
pub before_parted : (p : Place) (k l : Bytes) → All Byte k → All Byte l → begins (longer left p) k ≡ true → begins (longer right p) l ≡ true → before k l ≡ true
unfolding begins
before_parted p k l a b u w = before_lex k l a b ∙ lex_sides p (bits k) (bits l) u w

-- the first byte decides, or the rest does
Split : ℕ → ℕ → Bytes → Bytes → Type 0
Split x y xs ys = (x < y) ⊎ ((x ≡ y) × (before xs ys ≡ true))

split : (x y : ℕ) (xs ys : Bytes) (a b : Bool) → ltb x y ≡ a → eqb x y ≡ b → a || (b && before xs ys) ≡ true → Split x y xs ys
unfolding Split
split x y xs ys true b p q h = inl (ltb-true x y p)
split x y xs ys false true p q h = inr (eqb-true x y q, h)
split x y xs ys false false p q h = absurd (false≢true h)

joined : (x y : ℕ) (xs ys : Bytes) → Split x y xs ys → before (x ∷ xs) (y ∷ ys) ≡ true
unfolding Split
joined x y xs ys (inl l) = rw (lt-ltb x y l)
joined x y xs ys (inr e) = rw (le-ltb x y (omega arith), eq-eqb x y e.0, e.1)

trans_split : (x y z : ℕ) (xs ys zs : Bytes) → Split x y xs ys → Split y z ys zs → (before xs ys ≡ true → before ys zs ≡ true → before xs zs ≡ true) → Split x z xs zs
unfolding Split
trans_split x y z xs ys zs (inl a) (inl b) f = inl (omega arith)
trans_split x y z xs ys zs (inl a) (inr b) f = inl (omega arith)
trans_split x y z xs ys zs (inr a) (inl b) f = inl (omega arith)
trans_split x y z xs ys zs (inr a) (inr b) f = inr (a.0 ∙ b.0, f a.1 b.1)

pub before_trans : (xs ys zs : Bytes) → before xs ys ≡ true → before ys zs ≡ true → before xs zs ≡ true
before_trans [] [] zs p q = absurd (false≢true p)
before_trans [] (y ∷ ys) [] p q = absurd (false≢true q)
before_trans [] (y ∷ ys) (z ∷ zs) p q = refl
before_trans (x ∷ xs) [] zs p q = absurd (false≢true p)
before_trans (x ∷ xs) (y ∷ ys) [] p q = absurd (false≢true q)
before_trans (x ∷ xs) (y ∷ ys) (z ∷ zs) p q =
    joined x z xs zs (trans_split x y z xs ys zs (split x y xs ys _ _ refl refl p) (split y z ys zs _ _ refl refl q) (before_trans xs ys zs))

irrefl_split : (x : ℕ) (xs : Bytes) → Split x x xs xs → (before xs xs ≡ true → ⊥) → ⊥
unfolding Split
irrefl_split x xs (inl a) f = omega arith
irrefl_split x xs (inr a) f = f a.1

pub before_irrefl : (xs : Bytes) → before xs xs ≡ true → ⊥
before_irrefl [] h = false≢true h
before_irrefl (x ∷ xs) h = irrefl_split x xs (split x x xs xs _ _ refl refl h) (before_irrefl xs)

pub before_asym : (xs ys : Bytes) → before xs ys ≡ true → before ys xs ≡ false
before_asym xs ys h = is_false (before ys xs) (λ k. before_irrefl xs (before_trans xs ys xs h k))

-- neither before the other: equal
total_go : (x y : ℕ) (xs ys : Bytes) (a b c : Bool) → ltb x y ≡ a → ltb y x ≡ b → eqb x y ≡ c → eqb y x ≡ c →
    a || (c && before xs ys) ≡ false → b || (c && before ys xs) ≡ false → (before xs ys ≡ false → before ys xs ≡ false → xs ≡ ys) → x ∷ xs ≡ y ∷ ys
total_go x y xs ys true b c p q r s h k f = absurd (true≢false h)
total_go x y xs ys false true c p q r s h k f = absurd (true≢false k)
total_go x y xs ys false false true p q r s h k f = ap₂ ◌∷◌ (eqb-true x y r) (f h k)
total_go x y xs ys false false false p q r s h k f =
    let u = ltb-false x y p in let w = ltb-false y x q in absurd (eqb-false x y r (omega arith))

eqb_comm : (x y : ℕ) (a : Bool) → eqb x y ≡ a → eqb y x ≡ a
eqb_comm x y true h = eq-eqb y x (sym (eqb-true x y h))
eqb_comm x y false h = ne_eqb y x (λ e. eqb-false x y h (sym e))

pub before_total : (xs ys : Bytes) → before xs ys ≡ false → before ys xs ≡ false → xs ≡ ys
before_total [] [] h k = refl
before_total [] (y ∷ ys) h k = absurd (true≢false h)
before_total (x ∷ xs) [] h k = absurd (true≢false k)
before_total (x ∷ xs) (y ∷ ys) h k =
    total_go x y xs ys _ _ (eqb x y) refl refl refl (eqb_comm x y _ refl) h (rw (eqb_comm x y (eqb x y) refl) at k) (before_total xs ys)
