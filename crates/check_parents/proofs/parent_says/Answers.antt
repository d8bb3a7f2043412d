-- `check_parents::parent_says` meets its contract: by its fields a slot names the record or not, and a parent says what `link` says. Assumes nothing.
use native.Mathlib.Omega.{arith}
use mathlib.Core.Path.{◌≡◌, refl, sym, subst, ◌∙◌}
use mathlib.Core.List.{[], ◌∷◌}
use mathlib.Core.Logic.{inl, inr}
use types.Run.{OneOf}
use denote.Enum.Declared.{tag_of}
use Rattle.terms.specs.Bits.{Byte}
use Rattle.terms.proofs.Lists.{all_of}
use Rattle.slots.specs.Answer.{Read}
use Rattle.slots.specs.declared.Child as declared-child
use Rattle.slots.specs.declared.Kind as declared-kind
use Rattle.slots.specs.declared.Kind.TheVariants.{Free, Leaf, Inner, Spoiled}
use Rattle.slots.specs.contracts.Kind as kind
use Rattle.store.proofs.Slots.{slot_within}
use Rattle.check_parents.proofs.Naming.{no_parent, no_inner, parent_said}
use Rattle.check_parents.proofs.parent_says.Goals as goal

pub returns-then-not-could_name : goal.returns-then-not-could_name
returns-then-not-could_name c = (
  omega arith,
  no_parent c.requires.0 (all_of Byte c.args.store.now 0 (λ i _. omega (arith, c.shared_slice_known-1.given i)))
      c.args.below c.requires.2
      (sym c.could_name.ensures ∙ c.if-not-could_name.true),
)

-- a kind that is not an inner node's is one of the others
others : (k : declared-kind.Kind) → ((x y : declared-child.Child) → k ≡ Inner x y → ⊥) → OneOf (0 ∷ 1 ∷ 3 ∷ []) (tag_of kind.the_type k)
others Free h = inl refl
others Leaf h = inr (inl refl)
others (Inner x y) h = absurd (h x y refl)
others Spoiled h = inr (inr refl)

pub slot_of-requires : goal.slot_of-requires
slot_of-requires c = slot_within c.requires.0

pub returns-in_default : goal.returns-in_default
returns-in_default c = (
  omega arith,
  no_inner c.requires.0 (all_of Byte c.args.store.now 0 (λ i _. omega (arith, c.shared_slice_known-1.given i))) c.args.below c.requires.2
      c.read_slot-slot.result
      (subst (λ x. Read x c.read_slot-slot.result) c.slot_of.ensures.0 c.read_slot-slot.ensures)
      (others _ c.in_default.not-Inner),
)

pub returns : goal.returns
returns c = (
  c.link.ensures.0,
  parent_said c.requires.0 (all_of Byte c.args.store.now 0 (λ i _. omega (arith, c.shared_slice_known-1.given i))) c.args.below c.requires.2
      c.read_slot-slot.result (subst (λ x. Read x c.read_slot-slot.result) c.slot_of.ensures.0 c.read_slot-slot.ensures)
      c.args.kept c.requires.1 (sym c.could_name.ensures ∙ c.if-not-could_name.false) _ _ c.in-Inner.is
      c.on_side-named.ensures c.on_side-beside.ensures c.ends_before-ends.result c.ends_before-ends.ensures.0
      c.link.result c.link.ensures.1,
)
