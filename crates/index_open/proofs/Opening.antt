-- What is asked first of a store and its table, and a fresh store's table: all its entries are the capacity. Assumes nothing.
use Prim.Native.Nat.{ℕ, zero, suc, ◌<◌, ◌≤◌}
use native.Mathlib.Omega.{arith}
use mathlib.Core.Path.{◌≡◌, refl, ap, sym, ◌∙◌, subst, subst₂}
use mathlib.Core.Bool.{Bool, true, false, true≢false}
use mathlib.Core.List.{List, []}
use lib.ListN.{length, get_or, replicate, length-replicate}
use Rattle.std.proofs.lemmas.List.{get_or-replicate}
use lib.Dec.{eqb}
use borrow.Author.Tests.{eqb-true, eqb-false}
use Rattle.terms.specs.declared.Form.TheVariants.{Counted as counted}
use Rattle.terms.specs.Bits.{Bytes, All}
use Rattle.terms.specs.Records.{Record, Slot, free, used}
use Rattle.terms.specs.Form.{top32}
use Rattle.meaning.specs.Store.{formatted}
use Rattle.meaning.specs.Sound.{At}
use Rattle.meaning.proofs.Finding.{free_used}
use Rattle.indexed.specs.Table.{entry, Right}
use Rattle.layout.specs.Sizes.{room_of}
use Rattle.layout.specs.Headers.{size_right, header_of}
use Rattle.layout.specs.Slots.{SlotForm}
use Rattle.layout.specs.Stores.{store_of, store_bytes, StoreForm}
use Rattle.layout.proofs.Headers.{size_says}
use Rattle.layout.proofs.Stores.{store_said}
use Rattle.promises.specs.Check as check
use Rattle.contracts.specs.Format.{format_answer, format_bytes}
use Rattle.index_rules.specs.Tables.{Fits, RightFor, Opened, other_length, checked, FormatsBoth, wrong_size, both_fresh}

-- a store of another size gives 1, whatever the table
pub opened_wrong_size : (s : Bytes) (table : List ℕ) → size_right counted (length s) ≡ false → Opened s table 1
unfolding header_of
opened_wrong_size s table e = go (eqb (length table) (room_of counted (length s))) refl
  where
    go : (b : Bool) → eqb (length table) (room_of counted (length s)) ≡ b → Opened s table 1
    go true f = checked (eqb-true _ _ f) (check.refused 1 (rw e))
    go false f = other_length (eqb-false _ _ f)

-- a fresh store's slots
free_here : (n i : ℕ) → get_or (replicate n free) i free ≡ free
free_here zero i = refl
free_here (suc n) zero = refl
free_here (suc n) (suc i) = free_here n i

each_free : (n : ℕ) → All (SlotForm counted) (replicate n free)
each_free zero = tt
each_free (suc n) = (tt, each_free n)

fresh_form : (n : ℕ) → 1 ≤ n → n ≤ 16384 → StoreForm (formatted n)
unfolding formatted
fresh_form n h k =
    let m = length-replicate n free in
    record { some = omega (arith, m); fits = omega (arith, m); ordered = omega arith; number = omega arith; each = each_free n }

-- the right table of a fresh store
fresh_right : (n : ℕ) → Right (formatted n) (replicate n n)
unfolding formatted At
fresh_right n = record {
  size = length-replicate n n ∙ sym (length-replicate n free);
  many = 0;
  within = omega arith;
  names = λ k l. absurd (omega arith);
  named = λ i r a. free_used r (sym (free_here n i) ∙ a.1);
  order = λ j k q r l m a b. absurd (omega arith);
  rest = λ k l m. get_or-replicate n k n _ (omega (arith, length-replicate n n, m)) ∙ sym (length-replicate n free);
}

module _ (s : Bytes) (table : List ℕ) where
  pub format_wrong_size : size_right counted (length s) ≡ false → FormatsBoth s table 1 s table
  format_wrong_size e = wrong_size (λ h f. true≢false (sym h ∙ e))

  -- both are fresh
  pub formats_both : {r n : ℕ} {t : Bytes} {u : List ℕ} → size_right counted (length s) ≡ true → n ≡ room_of counted (length s) → length table ≡ n →
      u ≡ replicate (length table) n → r ≡ format_answer s → t ≡ format_bytes s → FormatsBoth s table r t u
  unfolding formatted
  formats_both {r} {n} {t} {u} h e f w a b =
      let size = size_says counted (length s) h in
      let room = room_of counted (length s) in
      let bytes : t ≡ store_bytes (formatted room) = b ∙ rw h in
      let store : formatted room ≡ store_of t = sym (ap store_of bytes ∙ store_said (formatted room) (fresh_form room size.1 size.2)) in
      let filled : replicate room room ≡ u = sym (w ∙ ap (λ k. replicate k n) (f ∙ e) ∙ ap (replicate room) e) in
      subst (λ x. FormatsBoth s table x t u) (sym (a ∙ rw h))
      (both_fresh h (f ∙ e) bytes (subst₂ Right store filled (fresh_right room)))
