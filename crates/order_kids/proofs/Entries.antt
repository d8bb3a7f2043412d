-- Two slots compared by their nodes, and the entries of a table that was looked at. Assumes nothing.
use Prim.Native.Nat.{ℕ, zero, suc, ◌+◌, ◌<◌, ◌≤◌}
use native.Mathlib.Omega.{arith}
use mathlib.Core.Path.{◌≡◌, refl, ap, sym, ◌∙◌, subst, subst₂}
use mathlib.Core.Logic.{◌⊎◌, inl, inr, ⊎_elim}
use mathlib.Core.Bool.{Bool, true, false}
use mathlib.Core.List.{List, [], ◌∷◌}
use lib.ListN.{length, get_or, set}
use lib.Seq.{get_or-set_other}
use lib.Dec.{eqb}
use borrow.Author.Tests.{eqb-true, eqb-false}
use Rattle.terms.specs.declared.Form.TheVariants.{Counted as counted}
use Rattle.terms.specs.Bits.{Bytes, Byte, All, before}
use Rattle.terms.specs.Records.{Slot}
use Rattle.layout.specs.Stores.{slot_in, store_of}
use Rattle.store.proofs.Slots.{slots_many}
use Rattle.check_pass.specs.Passes.{Passed}
use Rattle.ordered.specs.Ordered.{key_no, Ordered, LeadsIf}
use Rattle.order_look.specs.Looks.{key_in, Stands, Formed}
use Rattle.std.specs.declared.cmp.Ordering.{Ordering}
use Rattle.std.specs.declared.cmp.Ordering.TheVariants.{Less, Equal, Greater}
use Rattle.std.specs.Ordering.{is_lt}
use Rattle.order_look.proofs.Keys.{inside, key_in_lem}
use Rattle.order_kids.specs.Kids.{Tabled}

-- two slots in form, by how the first stands to the key that the second's bytes say
pub told_before : {s : Bytes} {i j : ℕ} → All Byte s → (f : Formed s i) (g : Formed s j) {key : Bytes} → key ≡ key_in (slot_in counted j s) →
    (r : Ordering) → Stands r (slot_in counted i s) key → Passed (is_lt r) (before (key_no (store_of s).slots i) (key_no (store_of s).slots j) ≡ true)
told_before bytes f g its Less w = subst₂ (λ x y. before x y ≡ true) (key_in_lem bytes f.0 f.1) (its ∙ key_in_lem bytes g.0 g.1) w
told_before bytes f g its Equal w = tt
told_before bytes f g its Greater w = tt

module _ {s : Bytes} {t : List ℕ} {n : ℕ} (w : Tabled s t n) where
  -- a table with entries is in order
  pub in_order : 1 ≤ n → Ordered (store_of s).slots t n
  in_order h = w.guide.sure h

  -- an entry names a slot of the store that is in form
  pub entry_formed : (k : ℕ) → k < n → {i : ℕ} → i ≡ get_or t k 0 → Formed s i
  entry_formed k h e =
      let f = (in_order (omega arith)).names k h in
      subst (Formed s) (sym e)
      (record { size = w.size; inside = omega (arith, inside (store_of s).slots (get_or t k 0) f.0 f.1, slots_many counted s) }, f)

set_or : (xs : List ℕ) (c w : ℕ) → (get_or (set xs c w) c 0 ≡ w) ⊎ (get_or (set xs c w) c 0 ≡ 0)
set_or [] c w = inr refl
set_or (x ∷ xs) zero w = inl refl
set_or (x ∷ xs) (suc c) w = set_or xs c w

-- one entry more that was looked at
pub looked_next : (s : List Slot) (t : List ℕ) (m x : ℕ) → ((j : ℕ) → j < m → LeadsIf s (get_or t j 0)) → LeadsIf s x →
    (j : ℕ) → j < m + 1 → LeadsIf s (get_or (set t m x) j 0)
looked_next s t m x f h j l = go (eqb j m) refl
  where
    go : (b : Bool) → eqb j m ≡ b → LeadsIf s (get_or (set t m x) j 0)
    go true e =
        let g = eqb-true j m e in
        subst (λ z. LeadsIf s (get_or (set t m x) z 0)) (sym g)
        (⊎_elim (λ z. subst (LeadsIf s) (sym z) h) (λ z some. absurd (omega (arith, z, some))) (set_or t m x))
    go false e =
        let g = eqb-false j m e in
        subst (LeadsIf s) (sym (get_or-set_other t m j x 0 g)) (f j (omega (arith, g)))
