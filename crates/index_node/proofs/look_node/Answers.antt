-- `index_node::look_node` meets its contract: greater bits, form, smaller bits, bit count and version decide, each where those before it do not. Assumes nothing.
use native.Mathlib.Omega.{arith}
use mathlib.Core.Path.{◌≡◌, ap, sym, ◌∙◌}
use mathlib.Core.Bool.{true, false}
use borrow.Author.Rules.{rules}
use Rattle.std.specs.declared.cmp.Ordering.TheVariants.{Less, Greater}
use Rattle.std.specs.Ordering.{MatchOrdering, nat_cmp}
use Rattle.std.proofs.lemmas.Cmp.{ranked}
use Rattle.terms.specs.declared.Form.TheVariants.{Counted as counted}
use Rattle.terms.specs.Bits.{Byte, All, before}
use Rattle.terms.proofs.Lists.{all_of}
use Rattle.layout.specs.Slots.{slot_of, bits_in, version_in}
use Rattle.layout.specs.Stores.{slot_in}
use Rattle.store.proofs.Slots.{slot_within}
use Rattle.lookup.specs.Lookup.{is_used}
use Rattle.index_node.proofs.Looked.{unformed, bits_small, bits_above, head_decides}
use Rattle.index_node.proofs.look_node.Goals as goal

pub slot_of-slot-requires : goal.slot_of-slot-requires
slot_of-slot-requires c = slot_within c.requires.0

pub returns-then-before : goal.returns-then-before
returns-then-before c =
    let a = c.args in
    let above-is = c.before-2.ensures ∙ ap (before a.place.bits) (c.bits_of.ensures.0 ∙ ap bits_in c.slot_of-slot.ensures.0) in
    bits_above c.requires.0 (all_of Byte a.store.now 0 (λ i _. omega (arith, c.type_inv.store i))) a.version a.place c.requires.1 (sym above-is ∙ c.if-before.true)

pub returns-then-not-holds_record : goal.returns-then-not-holds_record
returns-then-not-holds_record c =
    let a = c.args in
    let form_is = c.holds_record.ensures ∙ ap (λ x. is_used (slot_of x)) c.slot_of-slot.ensures.0 in
    unformed c.requires.0 (all_of Byte a.store.now 0 (λ i _. omega (arith, c.type_inv.store i))) a.version a.place c.requires.1 (sym form_is ∙ c.if-not-holds_record.true)

pub returns-then-before-2 : goal.returns-then-before-2
returns-then-before-2 c =
    let a = c.args in
    let below_is = c.before-3.ensures ∙ ap (λ y. before y a.place.bits) (c.bits_of-2.ensures.0 ∙ ap bits_in c.slot_of-slot.ensures.0) in
    let form_is = c.holds_record.ensures ∙ ap (λ x. is_used (slot_of x)) c.slot_of-slot.ensures.0 in
    bits_small c.requires.0 (all_of Byte a.store.now 0 (λ i _. omega (arith, c.type_inv.store i))) a.version a.place c.requires.1 (sym form_is ∙ c.if-not-holds_record.false) (sym below_is ∙ c.if-before-2.true)

pub count_at-requires : goal.count_at-requires
count_at-requires c = slot_within c.requires.0

pub returns : goal.returns
returns c =
    let a = c.args in
    let x = slot_in counted a.i a.store.now in
    let above-is = c.before-2.ensures ∙ ap (before a.place.bits) (c.bits_of.ensures.0 ∙ ap bits_in c.slot_of-slot.ensures.0) in
    let below_is = c.before-3.ensures ∙ ap (λ y. before y a.place.bits) (c.bits_of-2.ensures.0 ∙ ap bits_in c.slot_of-slot.ensures.0) in
    let form_is = c.holds_record.ensures ∙ ap (λ y. is_used (slot_of y)) c.slot_of-slot.ensures.0 in
    let version : MatchOrdering c.cmp.result (c.then_with.result ≡ Less) (c.then_with.result ≡ nat_cmp (version_in x) a.version) (c.then_with.result ≡ Greater) = search rules in
    head_decides c.requires.0 (all_of Byte a.store.now 0 (λ i _. omega (arith, c.type_inv.store i))) a.version a.place c.requires.1 (sym form_is ∙ c.if-not-holds_record.false)
    (sym below_is ∙ c.if-before-2.false) (sym above-is ∙ c.if-before.false) c.cmp.result c.then_with.result
    (ranked _ _ _ (c.cmp.ensures ∙ ap (λ n. nat_cmp n a.place.count) c.count_at.ensures)) version

pub then_with-requires : goal.then_with-requires
then_with-requires c = let within = slot_within c.requires.0 in search (rules, within)
