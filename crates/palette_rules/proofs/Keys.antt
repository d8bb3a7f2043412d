-- A list of whole keys is its keys one after the other, each of 32 bytes. Assumes nothing.
use Prim.Native.Nat.{ℕ, zero, suc, ◌*◌, ◌≤◌, ◌/◌, ◌%◌}
use native.Mathlib.Omega.{arith}
use mathlib.Core.Path.{◌≡◌, refl, ap, sym, ◌∙◌}
use mathlib.Core.Bool.{true, false, ◌&&◌}
use mathlib.Core.List.{List, [], ◌∷◌, ◌++◌}
use lib.ListN.{length, take, drop, length-append, length-take, length-drop, take-append-drop}
use lib.Dec.{eqb, leb}
use borrow.Author.Tests.{eqb-true, leb-true, eq-eqb, le-leb, ne_eqb}
use Rattle.terms.specs.Bits.{Bytes, Byte, All, Whole32}
use Rattle.terms.specs.Fields.{flat}
use Rattle.terms.proofs.Lists.{all_take, all_drop}
use Rattle.terms.proofs.Tests.{and_left, and_right}
use Rattle.palette_rules.specs.Palette.{key_size, most_keys, whole_keys, keys_from, keys_in}

-- the test in numbers
pub record WholeList (list : Bytes) : Type 0 where
  pub whole : length list % key_size ≡ 0
  pub few : length list / key_size ≤ most_keys

pub whole_list : (list : Bytes) → whole_keys list ≡ true → WholeList list
unfolding whole_keys
whole_list list e = record {
  whole = eqb-true (length list % key_size) 0 (and_left (eqb (length list % key_size) 0) (leb (length list / key_size) most_keys) e);
  few = leb-true (length list / key_size) most_keys (and_right (eqb (length list % key_size) 0) (leb (length list / key_size) most_keys) e);
}

pub list_whole : (list : Bytes) → WholeList list → whole_keys list ≡ true
unfolding whole_keys
list_whole list w = rw (eq-eqb (length list % key_size) 0 w.whole, le-leb (length list / key_size) most_keys w.few)

-- the keys of a list, each of 32 bytes, make up its bytes
keys_long : (n : ℕ) (list : Bytes) → key_size * n ≤ length list → All (λ k. length k ≡ key_size) (keys_from n list)
keys_long zero list h = tt
keys_long (suc n) list h = (simp length-take (omega arith), keys_long n (drop key_size list) (simp length-drop (omega arith)))

keys_flat : (n : ℕ) (list : Bytes) → length list ≡ key_size * n → flat (keys_from n list) ≡ list
keys_flat zero [] h = refl
keys_flat zero (b ∷ list) h = absurd (omega arith)
keys_flat (suc n) list h =
    ap (take key_size list ++◌) (keys_flat n (drop key_size list) (simp length-drop (omega arith))) ∙ take-append-drop key_size list

pub keys_are_32 : (list : Bytes) → All (λ k. length k ≡ 32) (keys_in list)
unfolding keys_in
keys_are_32 list = keys_long (length list / key_size) list (omega arith)

keys_bytes : (n : ℕ) (list : Bytes) → key_size * n ≤ length list → All Byte list → All Whole32 (keys_from n list)
keys_bytes zero list h b = tt
keys_bytes (suc n) list h b =
    ((simp length-take (omega arith), all_take Byte key_size list b), keys_bytes n (drop key_size list) (simp length-drop (omega arith)) (all_drop Byte key_size list b))

-- keys of bytes
pub keys_are_bytes : (list : Bytes) → All Byte list → All Whole32 (keys_in list)
unfolding keys_in
keys_are_bytes list b = keys_bytes (length list / key_size) list (omega arith) b

pub keys_many : (n : ℕ) (list : Bytes) → length (keys_from n list) ≡ n
keys_many zero list = refl
keys_many (suc n) list = ap suc (keys_many n (drop key_size list))

pub keys_counted : (list : Bytes) → whole_keys list ≡ true → length (keys_in list) ≤ most_keys
unfolding keys_in
keys_counted list e = omega (arith, keys_many (length list / key_size) list, (whole_list list e).few)

pub list_is_keys : (list : Bytes) → whole_keys list ≡ true → flat (keys_in list) ≡ list
unfolding keys_in
list_is_keys list e = keys_flat (length list / key_size) list (omega (arith, (whole_list list e).whole))

flat_long : (keys : List Bytes) → All (λ k. length k ≡ key_size) keys → length (flat keys) ≡ key_size * length keys
flat_long [] h = refl
flat_long (k ∷ keys) h = let r = flat_long keys h.1 in let l = h.0 in length-append k (flat keys) ∙ omega arith

-- and keys one after the other are a list of whole keys
pub flat_is_whole : (keys : List Bytes) → All (λ k. length k ≡ key_size) keys → length keys ≤ most_keys → whole_keys (flat keys) ≡ true
flat_is_whole keys h few = let l = flat_long keys h in list_whole (flat keys) (record { whole = omega arith; few = omega arith })

-- the test as the code makes it
pub torn : (list : Bytes) → (length list % key_size ≡ 0 → ⊥) → false ≡ whole_keys list
unfolding whole_keys
torn list f = ap (λ b. b && leb (length list / key_size) most_keys) (sym (ne_eqb (length list % key_size) 0 f))

pub counted : (list : Bytes) → length list % key_size ≡ 0 → leb (length list / key_size) most_keys ≡ whole_keys list
unfolding whole_keys
counted list e = ap (λ b. b && leb (length list / key_size) most_keys) (sym (eq-eqb (length list % key_size) 0 e))
