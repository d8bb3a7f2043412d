-- The lives of parents added up slot by slot: no entry ever is more than the sum that the test asks for. Assumes nothing.
use Prim.Native.Nat.{ℕ, ◌+◌, ◌<◌, ◌≤◌}
use native.Mathlib.Omega.{arith}
use native.Mathlib.Numerals.{add-one}
use mathlib.Core.Path.{◌≡◌, refl, ap, sym, ◌∙◌, subst}
use mathlib.Core.Bool.{Bool, true, false, cond, ◌||◌, false≢true}
use mathlib.Core.List.{List}
use lib.ListN.{length, get_or, drop}
use lib.Seq.{drop-cons}
use lib.Dec.{eqb}
use borrow.Author.Tests.{eqb-true}
use Rattle.terms.specs.Bits.{Side, left, right}
use Rattle.terms.specs.Records.{Record, free, Store}
use Rattle.terms.proofs.Places.{longer_inj}
use Rattle.meaning.specs.Sound.{At}
use Rattle.local.specs.Test.{total, by_record, names, kept_life, is_parent, life_above}
use Rattle.meaning.proofs.Finding.{same_slot}
use Rattle.local.proofs.Naming.{names_eq}
use Rattle.check_seen.specs.Sums.{Added, Under, side_life, SideAdded}

total_next : {A : Type 0} (xs : List A) (d : A) (i : ℕ) (f : A → ℕ) → i < length xs → total f (drop i xs) ≡ f (get_or xs i d) + total f (drop (i + 1) xs)
total_next xs d i f h = ap (total f) (drop-cons xs i d h) ∙ rw (add-one i)

module _ (st : Store) where
  -- q names r on one side only
  one_side : (r q : Record) → side_life st left r q + side_life st right r q ≤ life_above st r q
  unfolding side_life life_above is_parent
  one_side r q = go (names left q r) (names right q r) refl refl
    where
      go : (a b : Bool) → names left q r ≡ a → names right q r ≡ b →
          cond a (kept_life st q) 0 + cond b (kept_life st q) 0 ≤ cond (a || b) (kept_life st q) 0
      go true true e f =
          absurd (false≢true (longer_inj q.place q.place left right (sym (names_eq left q r e).1 ∙ (names_eq right q r f).1)).1)
      go true false e f = omega arith
      go false true e f = omega arith
      go false false e f = omega arith

  -- the life of q, added to the slot of the child that it names
  pub added_side : (b : Side) (q : Record) (xs ys : List ℕ) (c n : ℕ) (x : Record) → At st c x → names b q x ≡ true → n ≤ kept_life st q → Added xs ys c n → SideAdded st b q xs ys
  unfolding side_life
  added_side b q xs ys c n x a m small add i r h = go (eqb i c) refl (add i)
    where
      go : (t : Bool) → eqb i c ≡ t → get_or ys i 0 ≤ get_or xs i 0 + cond t n 0 → get_or ys i 0 ≤ get_or xs i 0 + cond (names b q r) (kept_life st q) 0
      go true e k =
          let s = same_slot st c i x r a h (sym (eqb-true i c e)) in
          rw (subst (λ y. names b q y ≡ true) s m) (omega arith)
      go false e k = omega arith

  -- nothing added for a side whose child is missing
  pub none_added : (b : Side) (q : Record) (xs : List ℕ) → SideAdded st b q xs xs
  none_added b q xs i r h = omega arith

  pub under_start : (xs : List ℕ) → ((i : ℕ) → get_or xs i 0 ≡ 0) → Under st xs 0
  under_start xs z i r a = omega (arith, z i)

  -- both sides of the record in slot j
  pub under_record : (j : ℕ) (q : Record) → At st j q → (xs ys zs : List ℕ) → Under st xs j → SideAdded st left q xs ys → SideAdded st right q ys zs → Under st zs (j + 1)
  unfolding At
  under_record j q c xs ys zs u f g i r a =
      let life = by_record 0 (life_above st r) in
      let here : life (get_or st.slots j free) ≡ life_above st r q = ap life c.1 in
      omega (arith, u i r a, f i r a, g i r a, one_side r q, here, total_next st.slots free j life c.0)

  -- a slot that adds nothing
  pub under_other : (j : ℕ) (xs : List ℕ) → j < length st.slots → Under st xs j → Under st xs (j + 1)
  under_other j xs h u i r a =
      let life = by_record 0 (life_above st r) in omega (arith, u i r a, total_next st.slots free j life h)

  -- at the end an entry that covers a life shows that the parents do
  pub under_end : (j : ℕ) (xs : List ℕ) → Under st xs j → (i : ℕ) (r : Record) → At st i r → kept_life st r ≤ get_or xs i 0 →
      kept_life st r ≤ total (by_record 0 (life_above st r)) st.slots
  under_end j xs u i r a h = omega (arith, u i r a)
