-- `prune_free::free_slot` meets its contract: the retired-since is 0, or later than the version, or the slot is cleared. Assumes nothing.
use mathlib.Core.Path.{sym, ◌∙◌}
use native.Mathlib.Omega.{arith}
use Rattle.prune_free.proofs.Freeing.{kept_not_retired, kept_retired_later, freed_retired}
use Rattle.prune_free.proofs.free_slot.Goals as goal

pub returns-then-since-eq0 : goal.returns-then-since-eq0
returns-then-since-eq0 c =
    let both = kept_not_retired c.args.version c.args.i c.args.store.now (sym c.retired_at-since.ensures ∙ c.if-since-eq0.true) in
    record { count = both.0; bytes = both.1 }

pub returns-then-version-since : goal.returns-then-version-since
returns-then-version-since c =
    let both = kept_retired_later c.args.version c.args.i c.args.store.now (omega (arith, c.retired_at-since.ensures, c.if-version-since.true)) in
    record { count = both.0; bytes = both.1 }

pub returns : goal.returns
returns c =
    let a = c.args in
    let both = freed_retired a.version a.i a.store.now (λ e. c.if-since-eq0.false (c.retired_at-since.ensures ∙ e)) (omega (arith, c.retired_at-since.ensures, c.if-version-since.false))
    c.clear_slot_at.ensures in
    record { count = both.0; bytes = both.1 }
