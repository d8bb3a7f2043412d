-- `lifetime::covers` meets its contract, by its two tests. Assumes nothing.
use Rattle.lifetime.proofs.Lifetimes.{before_it, never_ends, until_it_ends}
use Rattle.lifetime.proofs.covers.Goals as goal

pub returns-then-version-from : goal.returns-then-version-from
returns-then-version-from c = before_it _ _ _ c.if-version-from.true

pub returns-then-since-eq0 : goal.returns-then-since-eq0
returns-then-since-eq0 c = never_ends _ _ _ c.if-version-from.false c.if-since-eq0.true

pub returns : goal.returns
returns c = until_it_ends _ _ _ c.if-version-from.false c.if-since-eq0.false
