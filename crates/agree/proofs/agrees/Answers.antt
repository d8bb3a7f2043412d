-- `agree::agrees` meets its contract: each field that differs decides, and else the bits do. Assumes nothing.
use native.Mathlib.Omega.{arith}
use mathlib.Core.Path.{refl, ap, ap₂, sym, ◌∙◌}
use Rattle.terms.specs.Bits.{same_bytes}
use Rattle.hash.proofs.Laws.{read_whole}
use Rattle.place.proofs.Places.{proper_whole}
use Rattle.layout.specs.Slots.{bits_in}
use Rattle.store.proofs.Slots.{slot_within}
use Rattle.agree.proofs.Agreeing.{other_version, other_count, by_bits}
use Rattle.agree.proofs.agrees.Goals as goal

pub version_at-requires : goal.version_at-requires
version_at-requires c = slot_within c.requires.0

pub returns-then-version_at-version : goal.returns-then-version_at-version
returns-then-version_at-version c = sym (other_version c.args.version c.args.place c.requires.1 _ (λ e. c.if-version_at-version.true (c.version_at.ensures ∙ e)))

pub count_at-requires : goal.count_at-requires
count_at-requires c = slot_within c.requires.0

pub returns-then-count_at-place : goal.returns-then-count_at-place
returns-then-count_at-place c =
    sym (other_count c.args.version c.args.place c.requires.1 _ (sym c.version_at.ensures ∙ c.if-version_at-version.false)
    (λ e. c.if-count_at-place.true (c.count_at.ensures ∙ e)))

pub slot_of-requires : goal.slot_of-requires
slot_of-requires c = slot_within c.requires.0

pub hash_at-requires : goal.hash_at-requires
hash_at-requires c = omega (arith, c.bits_of.ensures.1)

pub hash_at-requires-2 : goal.hash_at-requires-2
hash_at-requires-2 c = omega (arith, proper_whole c.args.place c.requires.1)

pub returns : goal.returns
returns c =
    let place = c.args.place in
    sym (by_bits c.args.version place c.requires.1 _ (sym c.version_at.ensures ∙ c.if-version_at-version.false)
    (sym c.count_at.ensures ∙ c.if-count_at-place.false)
    (c.same_hash.ensures ∙ ap₂ same_bytes
    (read_whole c.hash_at.ensures.result_value c.bits_of.ensures.1 (c.bits_of.ensures.0 ∙ ap bits_in c.slot_of.ensures.0))
    (read_whole c.hash_at-2.ensures.result_value (proper_whole place c.requires.1) refl)))
