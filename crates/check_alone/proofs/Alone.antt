-- A record by itself: its version, its life, and how many slots hold its node, as the code tests them. Assumes nothing.
use Prim.Native.Nat.{ℕ, ◌<◌, ◌≤◌}
use native.Mathlib.Omega.{arith}
use mathlib.Core.Path.{◌≡◌, ap, sym, ◌∙◌}
use mathlib.Core.Bool.{Bool, true, false, ◌||◌}
use lib.Dec.{eqb, leb}
use borrow.Author.Tests.{le-leb, lt-leb}
use Rattle.terms.specs.declared.Form.{Form}
use Rattle.terms.specs.Bits.{Bytes, Side}
use Rattle.terms.specs.Fields.{all_of}
use Rattle.terms.specs.Records.{Body, Tally}
use Rattle.terms.proofs.Fields.{test_passed, test_failed, test_last}
use Rattle.meaning.specs.Store.{find}
use Rattle.local.specs.Test.{total, by_record, is_same, holders, life_test, is_found}
use Rattle.place.specs.declared.Place as declared-place
use Rattle.place.specs.Place.{place_of, Grown}
use Rattle.layout.specs.Stores.{store_in}
use Rattle.check_kin.specs.declared.Kept as declared-kept
use Rattle.check_kin.specs.Kin.{count_node}
use Rattle.check_alone.specs.declared.Head as declared
use Rattle.check_alone.specs.Parts.{record_on, Headed, life_right, found_on, alone_tests}

module _ {fm : Form} {s : Bytes} {k : declared-kept.Kept} {h : declared.Head} (w : Headed fm s k h) (o : Body) (tl : Tally) where
  life_is : life_test (store_in fm s) (record_on h o tl) ≡ life_right k h.version h.retired
  unfolding life_test life_right
  life_is = rw (w.keeps.oldest, w.keeps.latest)

  in_time : h.version ≤ k.latest → leb h.version (store_in fm s).latest ≡ true
  in_time l = le-leb h.version (store_in fm s).latest (omega (arith, w.keeps.latest))

  pub too_late : k.latest < h.version → false ≡ all_of (alone_tests fm s h o tl)
  too_late l = sym (test_failed _ (lt-leb h.version (store_in fm s).latest (omega (arith, w.keeps.latest))))

  pub wrong_life : h.version ≤ k.latest → life_right k h.version h.retired ≡ false → false ≡ all_of (alone_tests fm s h o tl)
  wrong_life l f = sym (test_passed _ (in_time l) ∙ test_failed _ (life_is ∙ f))

  pub counted : h.version ≤ k.latest → life_right k h.version h.retired ≡ true → (n : ℕ) →
      n ≡ total (by_record 0 (count_node h.version (place_of h.place))) (store_in fm s).slots → eqb n 1 ≡ all_of (alone_tests fm s h o tl)
  unfolding holders is_same count_node
  counted l f n e = sym (test_passed _ (in_time l) ∙ test_passed _ (life_is ∙ f) ∙ test_last _ ∙ ap (λ m. eqb m 1) (sym e))

-- a child one bit below
pub found_as : (fm : Form) (s : Bytes) (p q : declared-place.Place) (b : Side) (v : ℕ) → Grown b p q → {t : Bool} →
    t ≡ (eqb v 0 || is_found (find v (place_of q) (store_in fm s).slots)) → found_on fm s p b v ≡ t
unfolding found_on
found_as fm s p q b v g e = ap (λ z. eqb v 0 || is_found (find v z (store_in fm s).slots)) (sym g.place) ∙ sym e
