-- What the passes over a table and over the slots leave. Assumes nothing.
use Prim.Native.Nat.{ℕ, suc, ◌+◌, ◌-◌, ◌<◌, ◌≤◌}
use native.Mathlib.Omega.{arith}
use mathlib.Core.Path.{◌≡◌, refl, ap, sym, ◌∙◌, subst, subst₂}
use mathlib.Core.Logic.{inl, inr}
use mathlib.Core.Bool.{Bool, true, false, true≢false}
use mathlib.Core.List.{List}
use lib.ListN.{length, get_or}
use lib.Dec.{ltb, eqb}
use borrow.Author.Tests.{ltb-true, ltb-false, eqb-true}
use Rattle.terms.specs.declared.Form.TheVariants.{Counted as counted}
use Rattle.terms.specs.Bits.{Bytes, Byte, All, before}
use Rattle.terms.specs.Records.{Slot, free}
use Rattle.layout.specs.Sizes.{room_of}
use Rattle.layout.specs.Stores.{slot_in, store_of}
use Rattle.store.proofs.Slots.{slots_many}
use Rattle.lookup.specs.Lookup.{is_used}
use Rattle.lookup.proofs.Searching.{used_or}
use Rattle.check_pass.specs.Passes.{Passed, Each}
use Rattle.ordered.specs.Ordered.{key_no, InForm, Ahead, Named, Ordered}
use Rattle.order_look.specs.Looks.{key_in, Stands, Formed}
use Rattle.std.specs.declared.cmp.Ordering.{Ordering}
use Rattle.std.specs.declared.cmp.Ordering.TheVariants.{Less, Equal}
use Rattle.order_look.proofs.Keys.{inside, key_in_lem}
use Rattle.order_table.specs.Tables.{InOrder, NamedNo}

-- a slot that a test says is in form
pub formed : (b : Bool) (s : List Slot) (i : ℕ) → b ≡ is_used (get_or s i free) → Passed b (InForm s i)
formed true s i e = used_or (get_or s i free) (sym e)
formed false s i e = tt

pub unformed : (s : List Slot) (i : ℕ) → is_used (get_or s i free) ≡ false → {A : Type 0} → InForm s i → A
unformed s i e (r, f) = absurd (true≢false (sym (ap is_used f) ∙ e))

pub named_here : (b : Bool) (t : List ℕ) (i : ℕ) {n : ℕ} (k : ℕ) → k < n → {w : ℕ} → w ≡ get_or t k 0 → b ≡ eqb w i → Passed b (Named t n i)
named_here true t i k h {w} f e = (k, h, sym f ∙ eqb-true w i (sym e))
named_here false t i k h f e = tt

-- two slots in form, by how the first stands to the key that the second's bytes say
module _ {s : Bytes} {i j : ℕ} (bytes : All Byte s) (f : Formed s i) (g : Formed s j) {key : Bytes} (its : key ≡ key_in (slot_in counted j s)) where
  mine : key_in (slot_in counted i s) ≡ key_no (store_of s).slots i
  mine = key_in_lem bytes f.0 f.1

  other : key ≡ key_no (store_of s).slots j
  other = its ∙ key_in_lem bytes g.0 g.1

  pub ahead_before : (r : Ordering) → Stands r (slot_in counted i s) key → r ≡ Less → Ahead (store_of s).slots i j
  ahead_before r w e = inl (subst₂ (λ x y. before x y ≡ true) mine other (subst (λ l. Stands l (slot_in counted i s) key) e w))

  pub ahead_same : (r : Ordering) → Stands r (slot_in counted i s) key → r ≡ Equal → (b : Bool) → b ≡ ltb i j → Passed b (Ahead (store_of s).slots i j)
  ahead_same r w e true h = inr (sym mine ∙ subst (λ l. Stands l (slot_in counted i s) key) e w ∙ other, ltb-true i j (sym h))
  ahead_same r w e false h = tt

module _ (s : Bytes) (t : List ℕ) where
  pub order_start : InOrder s t 0
  order_start = record { each = λ k l. absurd (omega arith); steps = λ k l. absurd (omega arith) }

  -- one entry more: its slot is in form, and stands after that of the entry before
  pub order_next : (k : ℕ) → InOrder s t k → {i : ℕ} → i ≡ get_or t k 0 → Formed s i → (1 ≤ k → Ahead (store_of s).slots (get_or t (k - 1) 0) i) → InOrder s t (k + 1)
  order_next k o {i} e f up = record { each = λ j l. here j l (ltb j k) refl; steps = λ j l. step j l (ltb (suc j) k) refl }
    where
      here : (j : ℕ) → j < k + 1 → (b : Bool) → ltb j k ≡ b → Formed s (get_or t j 0)
      here j l true d = o.each j (ltb-true j k d)
      here j l false d = let g : k ≡ j = omega (arith, ltb-false j k d) in subst (Formed s) (e ∙ ap (λ z. get_or t z 0) g) f

      step : (j : ℕ) → suc j < k + 1 → (b : Bool) → ltb (suc j) k ≡ b → Ahead (store_of s).slots (get_or t j 0) (get_or t (suc j) 0)
      step j l true d = o.steps j (ltb-true (suc j) k d)
      step j l false d =
          let g : k ≡ suc j = omega (arith, ltb-false (suc j) k d) in
          let h : k - 1 ≡ j = omega arith in
          subst₂ (Ahead (store_of s).slots) (ap (λ z. get_or t z 0) h) (e ∙ ap (λ z. get_or t z 0) g) (up (omega arith))

  -- the two passes together
  pub both_passed : (n : ℕ) → InOrder s t n → Each (NamedNo s t n) (room_of counted (length s)) → Ordered (store_of s).slots t n
  both_passed n o named = record {
    names = λ k l. (o.each k l).1;
    ascends = o.steps;
    named = λ i f. named i (omega (arith, inside (store_of s).slots i f.0 f.1, slots_many counted s)) f;
  }
