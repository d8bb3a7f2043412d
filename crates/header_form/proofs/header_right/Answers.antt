-- `header_form::header_right` meets its contract: after each test that passed, the tests that are left decide. Assumes nothing.
use mathlib.Core.Path.{◌≡◌, sym, ◌∙◌}
use native.Mathlib.Omega.{arith}
use Prim.Native.Nat.{◌-◌, ◌/◌}
use lib.ListN.{length, drop}
use borrow.Author.Tests.{eq-eqb, ne_eqb, le-leb, lt-leb}
use Rattle.terms.specs.Fields.{field, slice, all_of}
use Rattle.terms.proofs.Fields.{test_passed, test_failed, test_last}
use Rattle.layout.specs.Sizes.{header_kind, room_of}
use Rattle.layout.specs.Headers.{header_tests, header_right}
use Rattle.layout.proofs.Headers.{room_by}
use Rattle.header_form.proofs.header_right.Goals as goal

pub returns-then-get_u32-ne-HEADER_LENGTH : goal.returns-then-get_u32-ne-HEADER_LENGTH
unfolding header_right
returns-then-get_u32-ne-HEADER_LENGTH c = sym (test_failed _ (ne_eqb _ _ (λ e. c.if-get_u32-ne-HEADER_LENGTH.true (c.get_u32.ensures ∙ e))))

pub returns-then-get_u16-kind : goal.returns-then-get_u16-kind
unfolding header_right
returns-then-get_u16-kind c =
    let kind1 : c.header_kind-kind.result ≡ header_kind (c.args.form) = c.header_kind-kind.ensures in
    let after1 : header_right (c.args.form) (c.args.store.now) ≡ all_of (drop 1 (header_tests (c.args.form) (c.args.store.now))) = test_passed _ (eq-eqb _ _ (sym c.get_u32.ensures ∙ c.if-get_u32-ne-HEADER_LENGTH.false)) in
    sym (after1 ∙ test_failed _ (ne_eqb _ _ (λ e. c.if-get_u16-kind.true (c.get_u16.ensures ∙ e ∙ sym kind1))))

pub returns-then-not-all_zero : goal.returns-then-not-all_zero
unfolding slice header_right
returns-then-not-all_zero c =
    let kind1 : c.header_kind-kind.result ≡ header_kind (c.args.form) = c.header_kind-kind.ensures in
    let after1 : header_right (c.args.form) (c.args.store.now) ≡ all_of (drop 1 (header_tests (c.args.form) (c.args.store.now))) = test_passed _ (eq-eqb _ _ (sym c.get_u32.ensures ∙ c.if-get_u32-ne-HEADER_LENGTH.false)) in
    let after2 : header_right (c.args.form) (c.args.store.now) ≡ all_of (drop 2 (header_tests (c.args.form) (c.args.store.now))) = after1 ∙ test_passed _ (eq-eqb _ _ (sym c.get_u16.ensures ∙ c.if-get_u16-kind.false ∙ kind1)) in
    sym (after2 ∙ test_failed _ (sym c.all_zero.ensures ∙ c.if-not-all_zero.true))

pub returns-then-get_u32-store : goal.returns-then-get_u32-store
unfolding slice header_right
returns-then-get_u32-store c =
    let room1 : (length (c.args.store.now) - 24) / c.slot_size-size.result ≡ room_of (c.args.form) (length (c.args.store.now)) = room_by (c.args.form) (length (c.args.store.now)) c.slot_size-size.ensures.0 in
    let kind1 : c.header_kind-kind.result ≡ header_kind (c.args.form) = c.header_kind-kind.ensures in
    let after1 : header_right (c.args.form) (c.args.store.now) ≡ all_of (drop 1 (header_tests (c.args.form) (c.args.store.now))) = test_passed _ (eq-eqb _ _ (sym c.get_u32.ensures ∙ c.if-get_u32-ne-HEADER_LENGTH.false)) in
    let after2 : header_right (c.args.form) (c.args.store.now) ≡ all_of (drop 2 (header_tests (c.args.form) (c.args.store.now))) = after1 ∙ test_passed _ (eq-eqb _ _ (sym c.get_u16.ensures ∙ c.if-get_u16-kind.false ∙ kind1)) in
    let after3 : header_right (c.args.form) (c.args.store.now) ≡ all_of (drop 3 (header_tests (c.args.form) (c.args.store.now))) = after2 ∙ test_passed _ (sym c.all_zero.ensures ∙ c.if-not-all_zero.false) in
    sym (after3 ∙ test_failed _ (ne_eqb _ _ (λ e. c.if-get_u32-store.true (c.get_u32-2.ensures ∙ e ∙ sym room1))))

pub returns-then-get_u32 : goal.returns-then-get_u32
unfolding slice header_right
returns-then-get_u32 c =
    let room1 : (length (c.args.store.now) - 24) / c.slot_size-size.result ≡ room_of (c.args.form) (length (c.args.store.now)) = room_by (c.args.form) (length (c.args.store.now)) c.slot_size-size.ensures.0 in
    let kind1 : c.header_kind-kind.result ≡ header_kind (c.args.form) = c.header_kind-kind.ensures in
    let after1 : header_right (c.args.form) (c.args.store.now) ≡ all_of (drop 1 (header_tests (c.args.form) (c.args.store.now))) = test_passed _ (eq-eqb _ _ (sym c.get_u32.ensures ∙ c.if-get_u32-ne-HEADER_LENGTH.false)) in
    let after2 : header_right (c.args.form) (c.args.store.now) ≡ all_of (drop 2 (header_tests (c.args.form) (c.args.store.now))) = after1 ∙ test_passed _ (eq-eqb _ _ (sym c.get_u16.ensures ∙ c.if-get_u16-kind.false ∙ kind1)) in
    let after3 : header_right (c.args.form) (c.args.store.now) ≡ all_of (drop 3 (header_tests (c.args.form) (c.args.store.now))) = after2 ∙ test_passed _ (sym c.all_zero.ensures ∙ c.if-not-all_zero.false) in
    let after4 : header_right (c.args.form) (c.args.store.now) ≡ all_of (drop 4 (header_tests (c.args.form) (c.args.store.now))) = after3 ∙ test_passed _ (eq-eqb _ _ (sym c.get_u32-2.ensures ∙ c.if-get_u32-store.false ∙ room1)) in
    sym (after4 ∙ test_failed _ (lt-leb (field 12 4 (c.args.store.now)) (field 16 4 (c.args.store.now)) (omega arith)))

pub returns : goal.returns
unfolding slice header_right
returns c =
    let room1 : (length (c.args.store.now) - 24) / c.slot_size-size.result ≡ room_of (c.args.form) (length (c.args.store.now)) = room_by (c.args.form) (length (c.args.store.now)) c.slot_size-size.ensures.0 in
    let kind1 : c.header_kind-kind.result ≡ header_kind (c.args.form) = c.header_kind-kind.ensures in
    let after1 : header_right (c.args.form) (c.args.store.now) ≡ all_of (drop 1 (header_tests (c.args.form) (c.args.store.now))) = test_passed _ (eq-eqb _ _ (sym c.get_u32.ensures ∙ c.if-get_u32-ne-HEADER_LENGTH.false)) in
    let after2 : header_right (c.args.form) (c.args.store.now) ≡ all_of (drop 2 (header_tests (c.args.form) (c.args.store.now))) = after1 ∙ test_passed _ (eq-eqb _ _ (sym c.get_u16.ensures ∙ c.if-get_u16-kind.false ∙ kind1)) in
    let after3 : header_right (c.args.form) (c.args.store.now) ≡ all_of (drop 3 (header_tests (c.args.form) (c.args.store.now))) = after2 ∙ test_passed _ (sym c.all_zero.ensures ∙ c.if-not-all_zero.false) in
    let after4 : header_right (c.args.form) (c.args.store.now) ≡ all_of (drop 4 (header_tests (c.args.form) (c.args.store.now))) = after3 ∙ test_passed _ (eq-eqb _ _ (sym c.get_u32-2.ensures ∙ c.if-get_u32-store.false ∙ room1)) in
    let after5 : header_right (c.args.form) (c.args.store.now) ≡ all_of (drop 5 (header_tests (c.args.form) (c.args.store.now))) = after4 ∙ test_passed _ (le-leb (field 12 4 (c.args.store.now)) (field 16 4 (c.args.store.now)) (omega arith)) in
    c.all_zero-2.ensures ∙ sym (after5 ∙ test_last _)
