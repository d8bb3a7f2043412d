-- `verify_path::keeps_to` meets its contract: the side decides, else the sibling.
-- Assumes nothing.
use mathlib.Core.Path.{ap, sym, ◌∙◌}
use Rattle.terms.specs.Bits.{Bytes, same_bytes}
use Rattle.terms.specs.Records.{zeros}
use Rattle.verify_path.proofs.Steps.{keeps_side, keeps_zero}
use Rattle.verify_path.proofs.keeps_to.Goals as goal

pub returns-then-is_right-side : goal.returns-then-is_right-side
returns-then-is_right-side c = sym (keeps_side _ _ c.is_right.ensures c.if-is_right-side.true)

pub returns : goal.returns
returns c =
    c.is_zero.ensures
    ∙ ap (λ (h : Bytes). same_bytes h zeros) c.sibling.ensures
    ∙ sym (keeps_zero _ _ c.is_right.ensures c.if-is_right-side.false)
