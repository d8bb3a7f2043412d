-- `figures_count::lives` meets its contract: version and retired-since, test by test. Assumes nothing.
use native.Mathlib.Omega.{arith}
use mathlib.Core.Path.{ap, sym, ◌∙◌}
use lib.Dec.{ltb}
use Rattle.terms.specs.Bits.{Byte}
use Rattle.terms.proofs.Lists.{all_of}
use Rattle.store.proofs.Slots.{slot_within}
use Rattle.figures_count.proofs.Slots.{holding, not_there, not_yet, not_ended, ended}
use Rattle.figures_count.proofs.lives.Goals as goal

pub version_at-version-requires : goal.version_at-version-requires
version_at-version-requires c = slot_within c.requires.has

pub returns-then-version-eq0 : goal.returns-then-version-eq0
returns-then-version-eq0 c =
    let s = c.args.store.now in
    not_there (holding s c.args.i c.requires (all_of Byte s 0 (λ i _. omega (arith, c.shared_slice_known-1.given i)))) c.args.first c.args.last
    (sym c.version_at-version.ensures ∙ c.if-version-eq0.true)

pub returns-then-last-version : goal.returns-then-last-version
returns-then-last-version c =
    let s = c.args.store.now in
    not_yet (holding s c.args.i c.requires (all_of Byte s 0 (λ i _. omega (arith, c.shared_slice_known-1.given i)))) c.args.first c.args.last
    (λ z. c.if-version-eq0.false (c.version_at-version.ensures ∙ z)) (omega (arith, c.version_at-version.ensures, c.if-last-version.true))

pub retired_at-since-requires : goal.retired_at-since-requires
retired_at-since-requires c = slot_within c.requires.has

pub returns-then-since-eq0 : goal.returns-then-since-eq0
returns-then-since-eq0 c =
    let s = c.args.store.now in
    not_ended (holding s c.args.i c.requires (all_of Byte s 0 (λ i _. omega (arith, c.shared_slice_known-1.given i)))) c.args.first c.args.last
    (λ z. c.if-version-eq0.false (c.version_at-version.ensures ∙ z)) (omega (arith, c.version_at-version.ensures, c.if-last-version.false)) (sym c.retired_at-since.ensures ∙ c.if-since-eq0.true)

pub returns : goal.returns
returns c =
    let s = c.args.store.now in
    ap (ltb c.args.first) c.retired_at-since.ensures
    ∙ ended (holding s c.args.i c.requires (all_of Byte s 0 (λ i _. omega (arith, c.shared_slice_known-1.given i)))) c.args.first c.args.last
    (λ z. c.if-version-eq0.false (c.version_at-version.ensures ∙ z)) (omega (arith, c.version_at-version.ensures, c.if-last-version.false)) (λ z. c.if-since-eq0.false (c.retired_at-since.ensures ∙ z))
