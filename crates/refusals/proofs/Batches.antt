-- Rows 4, 5, 18 and 7: what a sound store answers to a batch is what they deserve. Assumes nothing.
use Prim.Native.Nat.{ℕ}
use native.Mathlib.Omega.{arith}
use mathlib.Core.Path.{◌≡◌, refl, ap, sym, ◌∙◌}
use mathlib.Core.Logic.{inl, inr}
use mathlib.Core.Bool.{true, true≢false}
use mathlib.Core.List.{List}
use mathlib.Core.Option.{Option, none, some}
use lib.ListN.{length}
use Rattle.terms.specs.Bits.{Bytes}
use Rattle.terms.specs.Records.{Ask}
use Rattle.meaning.specs.Tree.{next_tree}
use Rattle.meaning.specs.Store.{tree_at_version, new_records}
use Rattle.meaning.specs.Calls.{ascending, refuse, apply}
use Rattle.meaning.specs.Answers.{number_of}
use Rattle.histories.proofs.Calls.{apply_cases}
use Rattle.nodehash.specs.Node.{leaf_hash, inner_hash}
use Rattle.layout.specs.Stores.{store_of}
use Rattle.batch.specs.Asked.{AskedBy, Asks}
use Rattle.batch.proofs.Batches.{asked_one}
use Rattle.refusals.proofs.Parts.{Row, batch_rows}
use Rattle.refusals.proofs.Exactly.{First}

-- Where two neighbouring rows are deserved at once, the answer is the number of the one that is tested first.
module _ (number : ℕ) (batch s : Bytes) (form : Row 4 (batch_rows number batch s) → ⊥) where
  five_before_eighteen : Row 5 (batch_rows number batch s) → Row 18 (batch_rows number batch s) → First (batch_rows number batch s) 5
  five_before_eighteen a b = inr (form, inl (a, refl))

  eighteen_before_seven : (Row 5 (batch_rows number batch s) → ⊥) → Row 18 (batch_rows number batch s) → Row 7 (batch_rows number batch s) → First (batch_rows number batch s) 18
  eighteen_before_seven order a b = inr (form, inr (order, inl (a, refl)))

-- how many new records a batch makes of the latest tree, as the version of a number
abbrev new_count : ℕ → Bytes → List Ask → ℕ
new_count number s as' = length (new_records leaf_hash inner_hash number (next_tree number (tree_at_version (store_of s) (store_of s).latest) as'))

-- a batch on a sound store
pub batch_first : (number : ℕ) (batch s : Bytes) (o : Option (List Ask)) → Asks batch o →
    First (batch_rows number batch s) (number_of (apply leaf_hash inner_hash number o (store_of s)).answer)
unfolding refuse
batch_first number batch s none off = inl (off, refl)
batch_first number batch s (some as') w =
    let same : (bs : List Ask) → AskedBy batch bs → bs ≡ as' = λ bs x. asked_one x w in
    let in_form : Asks batch none → ⊥ = λ f. f as' w in
    let rising : ascending as' ≡ true → Row 5 (batch_rows number batch s) → ⊥ =
    λ a x. true≢false (sym a ∙ ap ascending (sym (same x.0 x.1)) ∙ x.2) in
    apply_cases leaf_hash inner_hash (λ out. First (batch_rows number batch s) (number_of out.answer)) number as' (store_of s)
    (λ a. inr (in_form, inl ((as', w, a), refl)))
    (λ a m. inr (in_form, inr (rising a, inl (m, refl))))
    (λ a m f. inr (in_form, inr (rising a, inr (λ l. absurd (omega arith), inl ((as', w, f), refl)))))
    (λ a m f.
    inr (
      in_form,
      inr (
        rising a,
        inr (λ l. absurd (omega arith), inr (λ x. absurd (omega (arith, f, ap (new_count number s) (same x.0 x.1), x.2)), refl)),
      ),
    ))
