-- `batch_form::head_is` meets its contract: its three tests are those of the head.
-- Assumes nothing.
use Prim.Native.Nat.{ℕ}
use mathlib.Core.Path.{sym, ap, ◌∙◌}
use lib.Dec.{eqb}
use Rattle.batch.proofs.Asks.{head_length_off, head_kind_off, head_zero}
use Rattle.batch_form.proofs.head_is.Goals as goal

pub returns-then-get_u32-n : goal.returns-then-get_u32-n
returns-then-get_u32-n c = let a = c.args in sym (head_length_off a.n a.k a.x.now (λ e. c.if-get_u32-n.true (c.get_u32.ensures ∙ e)))

pub returns-then-get_u16-k : goal.returns-then-get_u16-k
returns-then-get_u16-k c =
    let a = c.args in
    sym (head_kind_off a.n a.k a.x.now (sym c.get_u32.ensures ∙ c.if-get_u32-n.false) (λ e. c.if-get_u16-k.true (c.get_u16.ensures ∙ e)))

pub returns : goal.returns
returns c =
    let a = c.args in
    let n = sym c.get_u32.ensures ∙ c.if-get_u32-n.false in
    let k = sym c.get_u16.ensures ∙ c.if-get_u16-k.false in
    ap (λ (m : ℕ). eqb m 0) c.get_u16-2.ensures ∙ sym (head_zero a.n a.k a.x.now n k)
