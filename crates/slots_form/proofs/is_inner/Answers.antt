-- `slots_form::is_inner` meets its contract: after each test that passed, the tests that are left decide. Assumes nothing.
use mathlib.Core.Path.{◌≡◌, ap, sym, ◌∙◌}
use mathlib.Core.Bool.{◌||◌}
use native.Mathlib.Omega.{arith}
use lib.ListN.{length, drop}
use lib.Dec.{leb}
use borrow.Author.Tests.{le-leb, lt-leb}
use Rattle.terms.specs.Fields.{field, all_of}
use Rattle.terms.proofs.Fields.{test_passed, test_failed, test_last}
use Rattle.layout.specs.Slots.{child_in, inner_in, head_tests, head_right, some_child, inner_tests, is_inner}
use Rattle.slots_form.proofs.is_inner.Goals as goal

pub returns-then-not-head_right : goal.returns-then-not-head_right
unfolding is_inner head_right inner_in
returns-then-not-head_right c =
    let headed : head_right (inner_in c.args.s.now) c.args.s.now ≡ c.head_right.result = let x = c.args.s.now in
    ap (λ k. all_of (head_tests (length x) k 255 x)) (sym c.inner_kind-kind.ensures) ∙ sym c.head_right.ensures in
    sym (test_failed _ (headed ∙ c.if-not-head_right.true))

pub returns-then-not-child_right : goal.returns-then-not-child_right
unfolding is_inner head_right inner_in
returns-then-not-child_right c =
    let headed : head_right (inner_in c.args.s.now) c.args.s.now ≡ c.head_right.result = let x = c.args.s.now in
    ap (λ k. all_of (head_tests (length x) k 255 x)) (sym c.inner_kind-kind.ensures) ∙ sym c.head_right.ensures in
    let after1 : is_inner (c.args.s.now) ≡ all_of (drop 1 (inner_tests (c.args.s.now))) = test_passed _ (headed ∙ c.if-not-head_right.false) in
    sym (after1 ∙ test_failed _ (sym c.child_right.ensures ∙ c.if-not-child_right.true))

pub returns-then-not-child_right-2 : goal.returns-then-not-child_right-2
unfolding is_inner head_right inner_in
returns-then-not-child_right-2 c =
    let headed : head_right (inner_in c.args.s.now) c.args.s.now ≡ c.head_right.result = let x = c.args.s.now in
    ap (λ k. all_of (head_tests (length x) k 255 x)) (sym c.inner_kind-kind.ensures) ∙ sym c.head_right.ensures in
    let after1 : is_inner (c.args.s.now) ≡ all_of (drop 1 (inner_tests (c.args.s.now))) = test_passed _ (headed ∙ c.if-not-head_right.false) in
    let after2 : is_inner (c.args.s.now) ≡ all_of (drop 2 (inner_tests (c.args.s.now))) = after1 ∙ test_passed _ (sym c.child_right.ensures ∙ c.if-not-child_right.false) in
    sym (after2 ∙ test_failed _ (sym c.child_right-2.ensures ∙ c.if-not-child_right-2.true))

pub returns-then-get_u32-ge1 : goal.returns-then-get_u32-ge1
unfolding some_child child_in is_inner head_right inner_in
returns-then-get_u32-ge1 c =
    let headed : head_right (inner_in c.args.s.now) c.args.s.now ≡ c.head_right.result = let x = c.args.s.now in
    ap (λ k. all_of (head_tests (length x) k 255 x)) (sym c.inner_kind-kind.ensures) ∙ sym c.head_right.ensures in
    let after1 : is_inner (c.args.s.now) ≡ all_of (drop 1 (inner_tests (c.args.s.now))) = test_passed _ (headed ∙ c.if-not-head_right.false) in
    let after2 : is_inner (c.args.s.now) ≡ all_of (drop 2 (inner_tests (c.args.s.now))) = after1 ∙ test_passed _ (sym c.child_right.ensures ∙ c.if-not-child_right.false) in
    let after3 : is_inner (c.args.s.now) ≡ leb 1 (field 48 4 (c.args.s.now)) || leb 1 (field 84 4 (c.args.s.now)) = after2 ∙ test_passed _ (sym c.child_right-2.ensures ∙ c.if-not-child_right-2.false) ∙ test_last _ in
    sym (after3 ∙ rw (le-leb 1 (field 48 4 (c.args.s.now)) (omega arith)))

pub returns : goal.returns
unfolding some_child child_in is_inner head_right inner_in
returns c =
    let headed : head_right (inner_in c.args.s.now) c.args.s.now ≡ c.head_right.result = let x = c.args.s.now in
    ap (λ k. all_of (head_tests (length x) k 255 x)) (sym c.inner_kind-kind.ensures) ∙ sym c.head_right.ensures in
    let after1 : is_inner (c.args.s.now) ≡ all_of (drop 1 (inner_tests (c.args.s.now))) = test_passed _ (headed ∙ c.if-not-head_right.false) in
    let after2 : is_inner (c.args.s.now) ≡ all_of (drop 2 (inner_tests (c.args.s.now))) = after1 ∙ test_passed _ (sym c.child_right.ensures ∙ c.if-not-child_right.false) in
    let after3 : is_inner (c.args.s.now) ≡ leb 1 (field 48 4 (c.args.s.now)) || leb 1 (field 84 4 (c.args.s.now)) = after2 ∙ test_passed _ (sym c.child_right-2.ensures ∙ c.if-not-child_right-2.false) ∙ test_last _ in
    let s = (c.args.s.now) in
    ap (leb 1) c.get_u32-2.ensures ∙ sym (after3 ∙ rw (lt-leb 1 (field 48 4 s) (omega arith)))
