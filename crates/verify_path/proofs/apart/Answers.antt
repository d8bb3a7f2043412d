-- `verify_path::apart` meets its contract: the four tests are the definition's, in its order.
-- Assumes nothing.
use mathlib.Core.Path.{sym, ◌∙◌}
use Rattle.verify_path.proofs.apart.Goals as goal

pub returns-then-is_right : goal.returns-then-is_right
returns-then-is_right c = rw (sym c.is_right.ensures ∙ c.if-is_right.true)

pub returns-then-not-is_right : goal.returns-then-not-is_right
returns-then-not-is_right c = rw (sym c.is_right.ensures ∙ c.if-is_right.false, sym c.is_right-2.ensures ∙ c.if-not-is_right.true)

pub returns-then-not-outermost : goal.returns-then-not-outermost
returns-then-not-outermost c =
    rw (
      sym c.is_right.ensures ∙ c.if-is_right.false,
      sym c.is_right-2.ensures ∙ c.if-not-is_right.false,
      sym c.outermost.ensures ∙ c.if-not-outermost.true,
    )

pub returns : goal.returns
returns c =
    rw (
      sym c.is_right.ensures ∙ c.if-is_right.false,
      sym c.is_right-2.ensures ∙ c.if-not-is_right.false,
      sym c.outermost.ensures ∙ c.if-not-outermost.false,
    )
    c.outermost-2.ensures
