-- Places by value: a proper place is its string of bits in 32 bytes, a bit 0 more leaves the bytes as they are, and a bit 1 more sets one bit.
-- Assumes nothing.
use Prim.Native.Nat.{ℕ, zero, suc, ◌+◌, ◌*◌, ◌-◌, ◌<◌, ◌≤◌, ◌^◌, ◌/◌, ◌%◌}
use native.Mathlib.Omega.{arith}
use mathlib.Core.Path.{◌≡◌, refl, ap, ap₂, sym, ◌∙◌}
use mathlib.Core.Bool.{Bool, true, false, ◌&&◌}
use mathlib.Core.List.{[], ◌∷◌, ◌++◌}
use lib.ListN.{length, get_or, take, drop, set, length-take, length-drop, drop_of_length-le, get_or-append, get_or-eq_default}
use lib.Seq.{drop-append-le, get_or-append-add}
use lib.Bits.{bit_or}
use lib.Dec.{eqb, ltb}
use borrow.Author.Tests.{eqb-true, ltb-true, ltb-false}
use Rattle.terms.specs.Bits.{Bytes, Byte, All, Side, Place, bits, longer, pack, packed, none_set}
use Rattle.terms.proofs.Tests.{and_left, and_right}
use Rattle.terms.proofs.Places.{length_bits, length_pack, length_longer, pack_bytes, pack_ext, pack_place, place_packed}
use Rattle.place.specs.declared.Place as declared
use Rattle.place.specs.Place.{place_of, Proper, Stands, Grown}

module _ (p : declared.Place) (w : Proper p) where
  pub proper_whole : length p.bits ≡ 32
  proper_whole = ap length w.trimmed ∙ length_pack 32 (place_of p)

  pub proper_bytes : All Byte p.bits
  proper_bytes = rw w.trimmed (pack_bytes 32 (place_of p))

  pub proper_count : length (place_of p) ≡ p.count
  unfolding place_of
  proper_count = let h = w.short in simp (length-take, length_bits) (omega (arith, proper_whole))

-- the bytes of a string of bits, with its length
pub stands : (b : Place) (r : declared.Place) → length b ≤ 256 → r.count ≡ length b → r.bits ≡ pack 32 b → Stands b (length b) r
unfolding place_of
stands b r h n e =
    let q : place_of r ≡ b = rw (n, e) (place_packed 32 b h) in
    record { proper = record { short = omega arith; trimmed = e ∙ ap (pack 32) (sym q) }; place = q; count = n }

pub grown : (b : Side) (p r : declared.Place) → Proper p → p.count < 256 → r.count ≡ p.count + 1 → r.bits ≡ pack 32 (longer b (place_of p)) → Grown b p r
grown b p r w h n e =
    let l : length (longer b (place_of p)) ≡ p.count + 1 = length_longer b (place_of p) ∙ omega (arith, proper_count p w) in
    let s = stands (longer b (place_of p)) r (omega arith) (omega arith) e in
    record { proper = s.proper; place = s.place; count = n }

-- the first bits of 32 bytes, the others zero
pub stands_at : (x : Bytes) (n : ℕ) (r : declared.Place) → length x ≡ 32 → All Byte x → n ≤ 256 → none_set (drop n (bits x)) ≡ true → r.bits ≡ x → r.count ≡ n → Stands (take n (bits x)) n r
stands_at x n r l h k z e f =
    let m : length (take n (bits x)) ≡ n = simp (length-take, length_bits) (omega arith) in
    let s = stands (take n (bits x)) r (omega arith) (omega arith) (e ∙ sym (pack_place n x h z) ∙ ap (λ (i : ℕ). pack i (take n (bits x))) l) in
    record { proper = s.proper; place = s.place; count = f }

-- a bit 0 more
pub pack_left : (n : ℕ) (q : Place) → pack n (longer false q) ≡ pack n q
unfolding longer
pack_left n q = pack_ext n (q ++ (false ∷ [])) q go
  where
    last : (m : ℕ) → get_or (false ∷ []) m false ≡ false
    last zero = refl
    last (suc m) = refl

    go : (i : ℕ) → get_or (q ++ (false ∷ [])) i false ≡ get_or q i false
    go i = by (ltb i (length q)) refl
      where
        by : (t : Bool) → ltb i (length q) ≡ t → get_or (q ++ (false ∷ [])) i false ≡ get_or q i false
        by true e = get_or-append q (false ∷ []) false i (ltb-true i (length q) e)
        by false e =
            let h = ltb-false i (length q) e in
            let j : i ≡ length q + (i - length q) = omega arith in
            ap (λ (m : ℕ). get_or (q ++ (false ∷ [])) m false) j
            ∙ get_or-append-add q (false ∷ []) (i - length q) false
            ∙ last (i - length q) ∙ sym (get_or-eq_default q false {n = i} h)

-- a test of each place of n bits, and what it says of one
every_place : ℕ → (Place → Bool) → Bool
every_place zero f = f []
every_place (suc n) f = every_place n (λ q. f (false ∷ q)) && every_place n (λ q. f (true ∷ q))

every_place_lem : (n : ℕ) (f : Place → Bool) → every_place n f ≡ true → (q : Place) → length q ≡ n → f q ≡ true
unfolding every_place
every_place_lem zero f h [] e = h
every_place_lem zero f h (b ∷ q) e = absurd (omega arith)
every_place_lem (suc n) f h [] e = absurd (omega arith)
every_place_lem (suc n) f h (false ∷ q) e = every_place_lem n (λ p. f (false ∷ p)) (and_left _ (every_place n (λ p. f (true ∷ p))) h) q (omega arith)
every_place_lem (suc n) f h (true ∷ q) e = every_place_lem n (λ p. f (true ∷ p)) (and_right (every_place n (λ p. f (false ∷ p))) _ h) q (omega arith)

-- a bit 1 more in a byte sets one bit, by trying all
sets_bit : Place → Bool
sets_bit q = eqb (bit_or (packed q) (128 / 2 ^ length q)) (packed (longer true q))

sets_bit_lem : (q : Place) → length q < 8 → sets_bit q ≡ true
unfolding every_place sets_bit packed longer
sets_bit_lem q h = go (length q) refl h
  where
    go : (n : ℕ) → length q ≡ n → n < 8 → sets_bit q ≡ true
    go zero e l = every_place_lem 0 sets_bit refl q e
    go (suc zero) e l = every_place_lem 1 sets_bit refl q e
    go (suc (suc zero)) e l = every_place_lem 2 sets_bit refl q e
    go (suc (suc (suc zero))) e l = every_place_lem 3 sets_bit refl q e
    go (suc (suc (suc (suc zero)))) e l = every_place_lem 4 sets_bit refl q e
    go (suc (suc (suc (suc (suc zero))))) e l = every_place_lem 5 sets_bit refl q e
    go (suc (suc (suc (suc (suc (suc zero)))))) e l = every_place_lem 6 sets_bit refl q e
    go (suc (suc (suc (suc (suc (suc (suc zero))))))) e l = every_place_lem 7 sets_bit refl q e
    go (suc (suc (suc (suc (suc (suc (suc (suc n)))))))) e l = absurd (omega arith)

packed_right : (q : Place) → length q < 8 → bit_or (packed q) (128 / 2 ^ length q) ≡ packed (longer true q)
unfolding sets_bit
packed_right q h = eqb-true (bit_or (packed q) (128 / 2 ^ length q)) (packed (longer true q)) (sets_bit_lem q h)

-- the bytes before it stay
packed_full : (q : Place) → 8 ≤ length q → packed (longer true q) ≡ packed q
unfolding packed longer
packed_full q h =
    let at : (i : ℕ) → i < length q → get_or (q ++ (true ∷ [])) i false ≡ get_or q i false = get_or-append q (true ∷ []) false in
    rw (at 0 (omega arith), at 1 (omega arith), at 2 (omega arith), at 3 (omega arith), at 4 (omega arith), at 5 (omega arith), at 6 (omega arith), at 7 (omega arith))

drop_longer : (q : Place) → 8 ≤ length q → drop 8 (longer true q) ≡ longer true (drop 8 q)
unfolding longer
drop_longer q h = drop-append-le 8 q (true ∷ []) h

-- bytes with the bit n set
abbrev pub with_bit : Bytes → ℕ → Bytes
with_bit x n = set x (n / 8) (bit_or (get_or x (n / 8) 0) (128 / 2 ^ (n % 8)))

with_bit_later : (a : ℕ) (x : Bytes) (n : ℕ) → 8 ≤ n → with_bit (a ∷ x) n ≡ a ∷ with_bit x (n - 8)
with_bit_later a x n h =
    let d : n / 8 ≡ suc ((n - 8) / 8) = omega arith in
    let m : n % 8 ≡ (n - 8) % 8 = omega arith in
    rw (d, m)

pub pack_right : (k : ℕ) (q : Place) → length q < 8 * k → with_bit (pack k q) (length q) ≡ pack k (longer true q)
unfolding pack
pack_right zero q h = absurd (omega arith)
pack_right (suc k) q h = go (λ l. pack_right k (drop 8 q) l) (ltb (length q) 8) refl
  where
    go : (length (drop 8 q) < 8 * k → with_bit (pack k (drop 8 q)) (length (drop 8 q)) ≡ pack k (longer true (drop 8 q)))
        → (t : Bool) → ltb (length q) 8 ≡ t → with_bit (packed q ∷ pack k (drop 8 q)) (length q) ≡ packed (longer true q) ∷ pack k (drop 8 (longer true q))
    go rest true e =
        let l = ltb-true (length q) 8 e in
        let d : length q / 8 ≡ 0 = omega arith in
        let m : length q % 8 ≡ length q = omega arith in
        let f : drop 8 q ≡ drop 8 (longer true q) = drop_of_length-le q {i = 8} (omega arith) ∙ sym (drop_of_length-le (longer true q) {i = 8} (omega (arith, length_longer true q))) in
        rw (d, m, packed_right q l, f)
    go rest false e =
        let l = ltb-false (length q) 8 e in
        let n : length (drop 8 q) ≡ length q - 8 = length-drop 8 q in
        with_bit_later (packed q) (pack k (drop 8 q)) (length q) l
        ∙ ap₂ ◌∷◌ (sym (packed_full q l)) (ap (with_bit (pack k (drop 8 q))) (sym n) ∙ rest (omega arith) ∙ ap (pack k) (sym (drop_longer q l)))

pub with_bit_lem : (p : declared.Place) → Proper p → p.count < 256 → with_bit p.bits p.count ≡ pack 32 (longer true (place_of p))
with_bit_lem p w h =
    let n = proper_count p w in
    ap₂ with_bit w.trimmed (sym n) ∙ pack_right 32 (place_of p) (omega arith)
