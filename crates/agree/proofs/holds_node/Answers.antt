-- `agree::holds_node` meets its contract: a slot that doesn't agree holds another node or none, and else its form decides. Assumes nothing.
use native.Mathlib.Omega.{arith}
use mathlib.Core.Path.{ap, sym, ◌∙◌}
use Rattle.terms.specs.Bits.{Byte}
use Rattle.terms.proofs.Lists.{all_of}
use Rattle.layout.specs.Slots.{slot_of}
use Rattle.store.proofs.Slots.{slot_within}
use Rattle.lookup.specs.Lookup.{is_used}
use Rattle.agree.proofs.Agreeing.{not_here, by_form}
use Rattle.agree.proofs.holds_node.Goals as goal

pub agrees-requires : goal.agrees-requires
agrees-requires c = c.requires

pub returns-then-not-agrees : goal.returns-then-not-agrees
returns-then-not-agrees c =
    not_here c.requires.0 (all_of Byte c.args.store.now 0 (λ i _. omega (arith, c.shared_slice_known-1.given i)))
    c.args.version c.args.place c.requires.1 (sym c.agrees.ensures ∙ c.if-not-agrees.true)

pub slot_of-requires : goal.slot_of-requires
slot_of-requires c = slot_within c.requires.0

pub returns : goal.returns
returns c =
    c.holds_record.ensures ∙ ap (λ x. is_used (slot_of x)) c.slot_of.ensures.0
    ∙ by_form c.requires.0 (all_of Byte c.args.store.now 0 (λ i _. omega (arith, c.shared_slice_known-1.given i)))
    c.args.version c.args.place c.requires.1 (sym c.agrees.ensures ∙ c.if-not-agrees.false)
