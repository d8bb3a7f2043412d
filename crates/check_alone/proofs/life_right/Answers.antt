-- `check_alone::life_right` meets its contract: one early return for each test. Assumes nothing.
use mathlib.Core.Path.{sym, ◌∙◌}
use borrow.Author.Tests.{eq-eqb, ne_eqb, lt-ltb, le-ltb}
use Rattle.terms.proofs.Fields.{test_passed, test_failed, test_last}
use Rattle.check_alone.specs.Parts.{life_right}
use Rattle.check_alone.proofs.life_right.Goals as goal

pub returns-then-retired-eq0 : goal.returns-then-retired-eq0
unfolding life_right
returns-then-retired-eq0 c = rw (eq-eqb c.args.retired 0 c.if-retired-eq0.true)

pub returns-then-retired-version : goal.returns-then-retired-version
unfolding life_right
returns-then-retired-version c =
    let a = c.args in
    sym (rw (ne_eqb a.retired 0 c.if-retired-eq0.false) (test_failed _ (le-ltb a.version a.retired c.if-retired-version.true)))

pub returns-then-retired-kept : goal.returns-then-retired-kept
unfolding life_right
returns-then-retired-kept c =
    let a = c.args in
    sym (rw (ne_eqb a.retired 0 c.if-retired-eq0.false)
    (test_passed _ (lt-ltb a.version a.retired c.if-retired-version.false) ∙ test_failed _
    (le-ltb a.kept.oldest a.retired c.if-retired-kept.true)))

pub returns : goal.returns
unfolding life_right
returns c =
    let a = c.args in
    sym (rw (ne_eqb a.retired 0 c.if-retired-eq0.false)
    (test_passed _ (lt-ltb a.version a.retired c.if-retired-version.false) ∙ test_passed _
    (lt-ltb a.kept.oldest a.retired c.if-retired-kept.false) ∙ test_last _))
