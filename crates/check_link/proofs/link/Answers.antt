-- `check_link::link` meets its contract: one early return for each test. Assumes nothing.
use Prim.Native.Nat.{max}
use native.Mathlib.Omega.{arith}
use mathlib.Core.Path.{sym, ap, ◌∙◌}
use mathlib.Core.Bool.{not}
use borrow.Author.Tests.{le-leb, lt-leb}
use Rattle.terms.proofs.Fields.{test_passed, test_failed, tests_all}
use Rattle.check_link.proofs.link.Goals as goal

pub returns-then-not-same_hash : goal.returns-then-not-same_hash
returns-then-not-same_hash c = (tt, test_failed _ (sym c.same_hash.ensures ∙ c.if-not-same_hash.true))

pub returns-then-later-below : goal.returns-then-later-below
returns-then-later-below c =
    let a = c.args in (
      tt,
      test_passed _ (sym c.same_hash.ensures ∙ c.if-not-same_hash.false)
          ∙ test_failed _ (lt-leb a.below.version (max a.kept.oldest a.version) (omega (arith, c.later.ensures, c.if-later-below.true))),
    )

pub returns-then-below-ends : goal.returns-then-below-ends
returns-then-below-ends c =
    let a = c.args in (
      tt,
      test_passed _ (sym c.same_hash.ensures ∙ c.if-not-same_hash.false)
          ∙ test_passed _ (le-leb a.below.version (max a.kept.oldest a.version) (omega (arith, c.later.ensures, c.if-later-below.false)))
          ∙ test_failed _ (lt-leb _ _ c.if-below-ends.true),
    )

pub returns-then-lone_leaf : goal.returns-then-lone_leaf
returns-then-lone_leaf c =
    let a = c.args in (
      tt,
      test_passed _ (sym c.same_hash.ensures ∙ c.if-not-same_hash.false)
          ∙ test_passed _ (le-leb a.below.version (max a.kept.oldest a.version) (omega (arith, c.later.ensures, c.if-later-below.false)))
          ∙ test_passed _ (le-leb _ _ c.if-below-ends.false)
          ∙ test_failed _ (ap not (sym c.lone_leaf.ensures ∙ c.if-lone_leaf.true)),
    )

pub returns : goal.returns
returns c =
    let a = c.args in (
      omega (arith, c.kept_life.ensures, c.requires),
      (
        tests_all _ (
          sym c.same_hash.ensures ∙ c.if-not-same_hash.false,
          (
            le-leb a.below.version (max a.kept.oldest a.version)
                (omega (arith, c.later.ensures, c.if-later-below.false)),
            (le-leb _ _ c.if-below-ends.false, (ap not (sym c.lone_leaf.ensures ∙ c.if-lone_leaf.false), tt)),
          ),
        ),
        sym c.kept_life.ensures,
      ),
    )
