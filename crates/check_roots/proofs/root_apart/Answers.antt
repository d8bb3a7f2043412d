-- `check_roots::root_apart` meets its contract: one early return for each field that tells. Assumes nothing.
use native.Mathlib.Omega.{arith}
use mathlib.Core.Path.{sym, ◌∙◌}
use Rattle.terms.specs.Bits.{Byte}
use Rattle.terms.proofs.Lists.{all_of}
use Rattle.store.proofs.Slots.{slot_within}
use Rattle.check_roots.proofs.Roots.{no_root_lem, clear_life, met}
use Rattle.check_roots.proofs.root_apart.Goals as goal

pub count_at-requires : goal.count_at-requires
count_at-requires c = slot_within c.requires.0

pub returns-then-count_at-ne0 : goal.returns-then-count_at-ne0
returns-then-count_at-ne0 c =
    no_root_lem c.requires.0 (all_of Byte c.args.store.now 0 (λ i _. omega (arith, c.shared_slice_known-1.given i)))
    c.args.version c.args.ends (λ z. c.if-count_at-ne0.true (c.count_at.ensures ∙ z))

pub retired_at-requires : goal.retired_at-requires
retired_at-requires c = slot_within c.requires.0

pub version_at-requires : goal.version_at-requires
version_at-requires c = slot_within c.requires.0

pub returns-then-lives_apart : goal.returns-then-lives_apart
returns-then-lives_apart c =
    clear_life c.requires.0 (all_of Byte c.args.store.now 0 (λ i _. omega (arith, c.shared_slice_known-1.given i)))
    c.args.version c.args.ends c.requires.1 c.version_at.ensures c.retired_at.ensures c.ends_before-end.ensures.0
    c.lives_apart.ensures c.if-lives_apart.true

pub slot_of-requires : goal.slot_of-requires
slot_of-requires c = slot_within c.requires.0

pub returns : goal.returns
returns c =
    met c.requires.0 (all_of Byte c.args.store.now 0 (λ i _. omega (arith, c.shared_slice_known-1.given i)))
    c.args.version c.args.ends c.requires.1 c.version_at.ensures c.retired_at.ensures c.ends_before-end.ensures.0
    c.lives_apart.ensures c.if-lives_apart.false (sym c.count_at.ensures ∙ c.if-count_at-ne0.false) c.slot_of.ensures.0
    c.holds_record.result c.holds_record.ensures
