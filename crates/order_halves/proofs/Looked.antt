-- A look at an entry of an ordered table says how the key of its slot stands to the node's. Assumes nothing.
use Prim.Native.Nat.{ℕ, ◌<◌}
use native.Mathlib.Omega.{arith}
use mathlib.Core.Path.{◌≡◌, refl, ap, sym, ◌∙◌, subst}
use mathlib.Core.Bool.{Bool, true, false}
use mathlib.Core.List.{List, [], ◌∷◌, ◌++◌}
use lib.ListN.{length, get_or}
use Rattle.terms.specs.declared.Form.TheVariants.{Counted as counted}
use Rattle.terms.specs.Bits.{Bytes, Byte, All, before}
use Rattle.terms.proofs.Order.{before_irrefl, before_asym}
use Rattle.terms.proofs.Tests.{is_false}
use Rattle.place.specs.declared.Place as declared-place
use Rattle.place.specs.Place.{place_of, Proper}
use Rattle.place.proofs.Places.{proper_count}
use Rattle.layout.specs.Headers.{size_right}
use Rattle.layout.specs.Stores.{slot_in, store_of, Has}
use Rattle.store.proofs.Slots.{slots_many}
use Rattle.ordered.specs.Ordered.{node_key, key_no, Ordered}
use Rattle.order_look.specs.Looks.{head_key, key_in, Stands}
use Rattle.std.specs.declared.cmp.Ordering.{Ordering}
use Rattle.std.specs.declared.cmp.Ordering.TheVariants.{Less, Equal, Greater}
use Rattle.order_look.proofs.Keys.{inside, key_in_lem}
use Rattle.std.specs.Ordering.{is_lt}

-- the key of a place as it is handed over
pub place_key : (v : ℕ) (p : declared-place.Place) → Proper p → head_key p.count p.bits v ≡ node_key v (place_of p)
unfolding head_key node_key place_of
place_key v p w = rw (proper_count p w) (ap (λ b. p.count ∷ (b ++ (v ∷ []))) w.trimmed)

module _ (s : Bytes) {t : List ℕ} {n : ℕ} (size : size_right counted (length s) ≡ true) (o : Ordered (store_of s).slots t n) where
  -- An entry names a slot of the store.
  pub entry_has : (k : ℕ) → k < n → Has counted s (get_or t k 0)
  entry_has k h =
      let f = o.names k h in
      record { size = size; inside = omega (arith, inside (store_of s).slots (get_or t k 0) f.0 f.1, slots_many counted s) }

  module _ (b : All Byte s) (v : ℕ) (p : declared-place.Place) (proper : Proper p) (k : ℕ) (h : k < n) {i : ℕ} (e : i ≡ get_or t k 0)
      (r : Ordering) (w : Stands r (slot_in counted i s) (head_key p.count p.bits v)) where
    pub mine : key_in (slot_in counted i s) ≡ key_no (store_of s).slots (get_or t k 0)
    mine = ap (λ z. key_in (slot_in counted z s)) e ∙ key_in_lem b (entry_has k h) (o.names k h)

    pub said : (l : Ordering) → r ≡ l → Stands l (slot_in counted i s) (head_key p.count p.bits v)
    said l f = subst (λ z. Stands z (slot_in counted i s) (head_key p.count p.bits v)) f w

    looked_less : r ≡ Less → before (key_no (store_of s).slots (get_or t k 0)) (head_key p.count p.bits v) ≡ true
    looked_less f = ap (λ z. before z (head_key p.count p.bits v)) (sym mine) ∙ said Less f

    looked_greater : r ≡ Greater → before (key_no (store_of s).slots (get_or t k 0)) (head_key p.count p.bits v) ≡ false
    looked_greater f =
        before_asym (head_key p.count p.bits v) (key_no (store_of s).slots (get_or t k 0)) (ap (before (head_key p.count p.bits v)) (sym mine) ∙ said Greater f)

    looked_equal : r ≡ Equal → before (key_no (store_of s).slots (get_or t k 0)) (head_key p.count p.bits v) ≡ false
    looked_equal f =
        is_false _
        (λ g. before_irrefl (head_key p.count p.bits v) (subst (λ z. before z (head_key p.count p.bits v) ≡ true) (sym mine ∙ said Equal f) g))

    -- the same of the node's key
    as_key : {b : Bool} → before (key_no (store_of s).slots (get_or t k 0)) (head_key p.count p.bits v) ≡ b → b ≡ before (key_no (store_of s).slots (get_or t k 0)) (node_key v (place_of p))
    as_key f = sym f ∙ ap (before (key_no (store_of s).slots (get_or t k 0))) (place_key v p proper)

    -- so the look tells whether it is before
    pub tells_before : is_lt r ≡ before (key_no (store_of s).slots (get_or t k 0)) (node_key v (place_of p))
    tells_before = told r refl
      where
        told : (z : Ordering) → r ≡ z → is_lt r ≡ before (key_no (store_of s).slots (get_or t k 0)) (node_key v (place_of p))
        told Less f = ap is_lt f ∙ as_key (looked_less f)
        told Equal f = ap is_lt f ∙ as_key (looked_equal f)
        told Greater f = ap is_lt f ∙ as_key (looked_greater f)
