-- `prune_free::is_kept` meets its contract: it compares with oldest, then with latest. Assumes nothing.
use native.Mathlib.Omega.{arith}
use lib.Dec.{leb}
use mathlib.Core.Path.{ap, ◌∙◌}
use Rattle.prune_free.proofs.Kept.{below_oldest, up_to_latest}
use Rattle.prune_free.proofs.is_kept.Goals as goal

pub returns-then-version-oldest_of : goal.returns-then-version-oldest_of
returns-then-version-oldest_of c =
    let a = c.args in
    below_oldest a.store.now a.version (omega (arith, c.if-version-oldest_of.true, c.oldest_of.ensures))

pub returns : goal.returns
returns c =
    let a = c.args in
    ap (leb a.version) c.latest_of.ensures ∙ up_to_latest a.store.now a.version (omega (arith, c.if-version-oldest_of.false, c.oldest_of.ensures))
