-- `place::unused_zero` meets its contract: no unused bit in the byte in which they begin, and zero bytes after it. Assumes nothing.
use Prim.Native.Nat.{◌+◌, ◌-◌, ◌/◌}
use native.Mathlib.Omega.{arith}
use mathlib.Core.Path.{◌≡◌, sym, ◌∙◌}
use lib.ListN.{length, take, drop, length-drop}
use lib.Seq.{take_all, get_or-drop}
use borrow.Author.Rules.{rules}
use borrow.Author.Tests.{tests}
use Rattle.std.proofs.lemmas.Iterator.{cases_from_all, YieldsList-from_slice}
use Rattle.place.proofs.Bits.{unused_first, unused_first_off, unused_none, unset_by_cases}
use Rattle.place.proofs.unused_zero.Goals as goal

pub returns-then-b-whole : goal.returns-then-b-whole
returns-then-b-whole c = sym (unused_none c.args.b.now c.args.count c.if-b-whole.true)

pub returns-then-b-whole-ne0 : goal.returns-then-b-whole-ne0
returns-then-b-whole-ne0 c = let a = c.args in sym (unused_first_off a.b.now a.count (omega arith) c.if-b-whole-ne0.true)

pub returns : goal.returns
returns c =
    let a = c.args in
    let i = a.count / 8 + 1 in
    let t = drop i a.b.now in
    let e : take (length a.b.now - i) t ≡ t = take_all (length a.b.now - i) t (simp length-drop (omega arith)) in
    unset_by_cases t c.all.result (λ k. rw get_or-drop (omega (arith, c.type_inv.b (i + k))))
    (cases_from_all _ _ _ (λ x. x ≡ 0) (λ x. x ≡ 0 → ⊥) c.all.ensures.ran (YieldsList-from_slice t cc) (λ x q k. search (rules, tests)) (λ x q k. search (rules, tests)))
    ∙ sym (unused_first a.b.now a.count (omega arith) c.if-b-whole-ne0.false)
