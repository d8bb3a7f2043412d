-- `order_look::bits_stand` meets its contract: the bytes before a word are the same, and the first word that differs decides. Assumes nothing.
use Prim.Native.Nat.{◌*◌}
use native.Mathlib.Omega.{arith}
use mathlib.Core.Path.{◌≡◌, ap₂, sym, ◌∙◌, subst}
use lib.ListN.{take}
use Rattle.std.specs.Ordering.{nat_cmp}
use Rattle.std.proofs.lemmas.Cmp.{ranked}
use Rattle.terms.specs.Bits.{Byte}
use Rattle.terms.proofs.Lists.{all_of}
use Rattle.order_look.proofs.Numbers.{eight_decide, eight_passed}
use Rattle.order_look.proofs.bits_stand.Goals as goal

pub returns-then-is_ne : goal.returns-then-is_ne
returns-then-is_ne c =
    let a = c.args in
    eight_decide a.x.now a.y.now (all_of Byte a.x.now 0 (λ i _. omega (arith, c.type_inv.x i))) (all_of Byte a.y.now 0 (λ i _. omega (arith, c.type_inv.y i)))
    (c.requires.0 ∙ sym c.requires.1) (8 * c.loop-word.word) (omega (arith, c.loop-word-test.true, c.requires.0)) c.loop-word.invariant _
    (ranked _ _ _ (c.cmp-stand.ensures ∙ ap₂ nat_cmp c.number_at-a.ensures c.number_at-b.ensures)) (sym c.is_ne.ensures ∙ c.if-is_ne.true)

pub loop-word-preserved : goal.loop-word-preserved
loop-word-preserved c =
    let a = c.args in
    subst (λ n. take n a.x.now ≡ take n a.y.now) (omega arith)
    (eight_passed a.x.now a.y.now (all_of Byte a.x.now 0 (λ i _. omega (arith, c.type_inv.x i))) (all_of Byte a.y.now 0 (λ i _. omega (arith, c.type_inv.y i)))
    (c.requires.0 ∙ sym c.requires.1) (8 * c.loop-word.word) (omega (arith, c.loop-word-test.true, c.requires.0)) c.loop-word.invariant _
    (ranked _ _ _ (c.cmp-stand.ensures ∙ ap₂ nat_cmp c.number_at-a.ensures c.number_at-b.ensures)) (sym c.is_ne.ensures ∙ c.if-is_ne.false))
