-- `slots_form::head_right` meets its contract: after each test that passed, the tests that are left decide. Assumes nothing.
use mathlib.Core.Path.{◌≡◌, ap, sym, ◌∙◌}
use native.Mathlib.Omega.{arith}
use lib.ListN.{drop}
use lib.Dec.{leb}
use borrow.Author.Tests.{eq-eqb, ne_eqb, le-leb, lt-leb}
use Rattle.terms.specs.Bits.{bits, none_set}
use Rattle.terms.specs.Fields.{field, slice, all_of}
use Rattle.terms.proofs.Fields.{test_passed, test_failed, test_last}
use Rattle.layout.specs.Slots.{count_in, head_tests}
use Rattle.slots_form.proofs.head_right.Goals as goal

pub returns-then-get_u32-len : goal.returns-then-get_u32-len
returns-then-get_u32-len c = sym (test_failed _ (ne_eqb _ _ (λ e. c.if-get_u32-len.true (c.get_u32.ensures ∙ e))))

pub returns-then-get_u16-kind : goal.returns-then-get_u16-kind
returns-then-get_u16-kind c =
    let after1 : all_of (let a = c.args in head_tests a.len a.kind a.limit a.s.now) ≡ all_of (drop 1 (let a = c.args in head_tests a.len a.kind a.limit a.s.now)) = test_passed _ (eq-eqb _ _ (sym c.get_u32.ensures ∙ c.if-get_u32-len.false)) in
    sym (after1 ∙ test_failed _ (ne_eqb _ _ (λ e. c.if-get_u16-kind.true (c.get_u16.ensures ∙ e))))

pub returns-then-limit-count : goal.returns-then-limit-count
unfolding count_in
returns-then-limit-count c =
    let after1 : all_of (let a = c.args in head_tests a.len a.kind a.limit a.s.now) ≡ all_of (drop 1 (let a = c.args in head_tests a.len a.kind a.limit a.s.now)) = test_passed _ (eq-eqb _ _ (sym c.get_u32.ensures ∙ c.if-get_u32-len.false)) in
    let after2 : all_of (let a = c.args in head_tests a.len a.kind a.limit a.s.now) ≡ all_of (drop 2 (let a = c.args in head_tests a.len a.kind a.limit a.s.now)) = after1 ∙ test_passed _ (eq-eqb _ _ (sym c.get_u16.ensures ∙ c.if-get_u16-kind.false)) in
    sym (after2 ∙ test_failed _ (lt-leb (field 6 2 (c.args.s.now)) c.args.limit (omega arith)))

pub returns-then-not-unused_zero : goal.returns-then-not-unused_zero
unfolding count_in slice
returns-then-not-unused_zero c =
    let after1 : all_of (let a = c.args in head_tests a.len a.kind a.limit a.s.now) ≡ all_of (drop 1 (let a = c.args in head_tests a.len a.kind a.limit a.s.now)) = test_passed _ (eq-eqb _ _ (sym c.get_u32.ensures ∙ c.if-get_u32-len.false)) in
    let after2 : all_of (let a = c.args in head_tests a.len a.kind a.limit a.s.now) ≡ all_of (drop 2 (let a = c.args in head_tests a.len a.kind a.limit a.s.now)) = after1 ∙ test_passed _ (eq-eqb _ _ (sym c.get_u16.ensures ∙ c.if-get_u16-kind.false)) in
    let after3 : all_of (let a = c.args in head_tests a.len a.kind a.limit a.s.now) ≡ all_of (drop 3 (let a = c.args in head_tests a.len a.kind a.limit a.s.now)) = after2 ∙ test_passed _ (le-leb (field 6 2 (c.args.s.now)) c.args.limit (omega arith)) in
    let unused : none_set (drop (count_in (c.args.s.now)) (bits (slice 8 32 (c.args.s.now)))) ≡ c.unused_zero.result = ap (λ n. none_set (drop n (bits (slice 8 32 (c.args.s.now))))) (sym c.get_u16-count.ensures)
    ∙ sym c.unused_zero.ensures in
    sym (after3 ∙ test_failed _ (unused ∙ c.if-not-unused_zero.true))

pub returns : goal.returns
unfolding count_in slice
returns c =
    let after1 : all_of (let a = c.args in head_tests a.len a.kind a.limit a.s.now) ≡ all_of (drop 1 (let a = c.args in head_tests a.len a.kind a.limit a.s.now)) = test_passed _ (eq-eqb _ _ (sym c.get_u32.ensures ∙ c.if-get_u32-len.false)) in
    let after2 : all_of (let a = c.args in head_tests a.len a.kind a.limit a.s.now) ≡ all_of (drop 2 (let a = c.args in head_tests a.len a.kind a.limit a.s.now)) = after1 ∙ test_passed _ (eq-eqb _ _ (sym c.get_u16.ensures ∙ c.if-get_u16-kind.false)) in
    let after3 : all_of (let a = c.args in head_tests a.len a.kind a.limit a.s.now) ≡ all_of (drop 3 (let a = c.args in head_tests a.len a.kind a.limit a.s.now)) = after2 ∙ test_passed _ (le-leb (field 6 2 (c.args.s.now)) c.args.limit (omega arith)) in
    let unused : none_set (drop (count_in (c.args.s.now)) (bits (slice 8 32 (c.args.s.now)))) ≡ c.unused_zero.result = ap (λ n. none_set (drop n (bits (slice 8 32 (c.args.s.now))))) (sym c.get_u16-count.ensures)
    ∙ sym c.unused_zero.ensures in
    let after4 : all_of (let a = c.args in head_tests a.len a.kind a.limit a.s.now) ≡ all_of (drop 4 (let a = c.args in head_tests a.len a.kind a.limit a.s.now)) = after3 ∙ test_passed _ (unused ∙ c.if-not-unused_zero.false) in
    ap (leb 1) c.get_u32-2.ensures ∙ sym (after4 ∙ test_last _)
