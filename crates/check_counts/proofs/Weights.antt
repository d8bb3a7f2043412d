-- What the bytes of a slot say of the leaves at its record. Assumes nothing.
use Prim.Native.Nat.{ℕ, ◌+◌}
use native.Mathlib.Omega.{arith}
use mathlib.Core.Path.{◌≡◌, refl, ap, ap₂, sym, ◌∙◌}
use mathlib.Core.Bool.{Bool, true, false, cond, ◌&&◌}
use mathlib.Core.Logic.{◌⊎◌, ⊎_elim}
use mathlib.Core.Option.{Option, some, none}
use lib.ListN.{length}
use lib.Dec.{eqb}
use borrow.Author.Tests.{eqb-true, eq-eqb, ne_eqb}
use Rattle.terms.specs.declared.Form.{Form}
use Rattle.terms.specs.declared.Form.TheVariants.{Plain as plain, Counted as counted}
use Rattle.terms.specs.Bits.{Bytes, left, right, Place, longer}
use Rattle.terms.specs.Records.{Record, Slot, used, count_on, tally}
use Rattle.meaning.specs.Store.{find}
use Rattle.meaning.specs.Counting.{weight}
use Rattle.meaning.specs.Local.{weighed}
use Rattle.local.specs.Test.{counts_are}
use Rattle.layout.specs.Headers.{size_right}
use Rattle.layout.specs.Sizes.{leaf_kind}
use Rattle.layout.specs.Slots.{leaf_in, inner_in, record_in, counts_in, slot_of}
use Rattle.layout.specs.Stores.{slot_in, store_in, slot_no, Has}
use Rattle.store.proofs.Slots.{slot_is, slots_many}
use Rattle.check_pass.specs.Passes.{kind_in}
use Rattle.check_pass.proofs.Records.{kind_most, LeafHere, InnerHere, record_cases}
use Rattle.std.specs.Prelude.{Some, None}
use Rattle.lookup.specs.Lookup.{FoundIn}
use Rattle.check_counts.specs.Counts.{FitsAt}

module _ {fm : Form} {s : Bytes} {i : ℕ} (h : Has fm s i) (q : Record) (e : slot_no fm i s ≡ used q) where
  cases : LeafHere (slot_in fm i s) q ⊎ InnerHere (slot_in fm i s) q
  cases = record_cases (slot_in fm i s) q (sym (slot_is h) ∙ e)

  pub leaf_weighs : kind_in (slot_in fm i s) ≡ leaf_kind → 1 ≡ weight q
  unfolding weight record_in leaf_in
  leaf_weighs l = ⊎_elim
      (λ w. sym (ap weight w.1))
      (λ w. absurd (omega (arith, w.0, l, kind_most (length (slot_in fm i s))))) cases

  pub inner_weighs : (kind_in (slot_in fm i s) ≡ leaf_kind → ⊥) → count_on left (counts_in (slot_in fm i s)) + count_on right (counts_in (slot_in fm i s)) ≡ weight q
  unfolding weight record_in inner_in
  inner_weighs l = ⊎_elim (λ w. absurd (l w.0)) (λ w. sym (ap weight w.1)) cases

-- a node that was found
pub found_has : (fm : Form) (s : Bytes) (v : ℕ) (p : Place) (i : ℕ) → size_right fm (length s) ≡ true → FoundIn (store_in fm s).slots v p (Some i) → Has fm s i
found_has fm s v p i z f = record { size = z; inside = omega (arith, f.0, slots_many fm s) }

pub found_weighs : (fm : Form) (s : Bytes) (v : ℕ) (p : Place) (i : ℕ) → FoundIn (store_in fm s).slots v p (Some i) → {n : ℕ} →
    ((q : Record) → slot_no fm i s ≡ used q → n ≡ weight q) → n ≡ weighed (find v p (store_in fm s).slots)
found_weighs fm s v p i f w = w f.1.0 f.1.1 ∙ sym (ap weighed f.1.2)

pub nothing_weighs : (fm : Form) (s : Bytes) (v : ℕ) (p : Place) → FoundIn (store_in fm s).slots v p None → 0 ≡ weighed (find v p (store_in fm s).slots)
nothing_weighs fm s v p f = sym (ap weighed f)

-- the counts of a record by those of its children, as the code compares them
module _ {f : Form} (l r y : ℕ) {x n : ℕ} (e : f ≡ counted) (is : n ≡ x) where
  pub left_off : (l ≡ n → ⊥) → false ≡ counts_are f (tally l r) (tally x y)
  left_off d = sym (ap (λ g. counts_are g (tally l r) (tally x y)) e ∙ rw (ne_eqb l x (λ k. d (k ∙ sym is))))

  pub left_on : l ≡ n → {m : ℕ} → m ≡ y → eqb r m ≡ counts_are f (tally l r) (tally x y)
  left_on d j = sym (ap (λ g. counts_are g (tally l r) (tally x y)) e ∙ rw (eq-eqb l x (d ∙ is), ← j))

-- a count by the number that was worked out; the plain form is not the counted one
pub fits_equal : (fm : Form) (s : Bytes) (i c : ℕ) {n : ℕ} → ((q : Record) → slot_no fm i s ≡ used q → n ≡ weight q) → eqb c n ≡ true → FitsAt fm s i c
fits_equal fm s i c {n} w t f q e = eqb-true c n t ∙ w q e

pub fits_plain : (fm : Form) (s : Bytes) (i c : ℕ) → fm ≡ plain → FitsAt fm s i c
fits_plain fm s i c e f q u = let p : plain ≡ counted = sym e ∙ f in let z : ◌≡◌ {A = ℕ} 0 1 = cc in absurd (omega arith)

pub form_is : (fm : Form) (s : Bytes) → (store_in fm s).form ≡ fm
form_is fm s = refl
