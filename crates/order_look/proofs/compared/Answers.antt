-- `order_look::compared` meets its contract: bit count, bits and version decide, each where those before it do not. Assumes nothing.
use mathlib.Core.Path.{◌≡◌, ap, sym, ◌∙◌, subst}
use lib.ListN.{length}
use Rattle.std.specs.Ordering.{nat_cmp}
use Rattle.std.proofs.lemmas.Cmp.{ranked}
use Rattle.terms.specs.declared.Form.TheVariants.{Counted as counted}
use Rattle.layout.specs.Slots.{count_in, bits_in, version_in}
use Rattle.layout.specs.Stores.{slot_in}
use Rattle.store.proofs.Slots.{slot_within}
use Rattle.order_look.specs.Looks.{BytesStand}
use Rattle.order_look.proofs.Keys.{counts_decide, counts_same, bits_decide, bits_same, by_versions}
use Rattle.order_look.proofs.compared.Goals as goal

pub count_at-requires : goal.count_at-requires
count_at-requires c = slot_within c.requires.0

pub returns-then-is_ne : goal.returns-then-is_ne
returns-then-is_ne c =
    let a = c.args in
    let x = slot_in counted a.i a.store.now in
    counts_decide (count_in x) a.count (bits_in x) a.bits.now (version_in x) a.version _
    (ranked _ _ _ (c.cmp-by_count.ensures ∙ ap (λ n. nat_cmp n a.count) (c.wide-its.ensures.0 ∙ c.count_at.ensures))) (sym c.is_ne.ensures ∙ c.if-is_ne.true)

pub slot_of-requires : goal.slot_of-requires
slot_of-requires c = slot_within c.requires.0

pub returns-then-is_ne-2 : goal.returns-then-is_ne-2
returns-then-is_ne-2 c =
    let a = c.args in
    let x = slot_in counted a.i a.store.now in
    let own = c.bits_of.ensures.0 ∙ ap bits_in c.slot_of.ensures.0 in
    bits_decide (count_in x) a.count (bits_in x) a.bits.now (version_in x) a.version
    (counts_same (count_in x) a.count (bits_in x) a.bits.now (version_in x) a.version _
    (ranked _ _ _ (c.cmp-by_count.ensures ∙ ap (λ n. nat_cmp n a.count) (c.wide-its.ensures.0 ∙ c.count_at.ensures))) (sym c.is_ne.ensures ∙ c.if-is_ne.false))
    (ap length (sym own) ∙ c.bits_of.ensures.1 ∙ sym c.requires.1) _ (subst (λ y. BytesStand c.bits_stand-by_bits.result y a.bits.now) own c.bits_stand-by_bits.ensures)
    (sym c.is_ne-2.ensures ∙ c.if-is_ne-2.true)

pub returns : goal.returns
returns c =
    let a = c.args in
    let x = slot_in counted a.i a.store.now in
    let own = c.bits_of.ensures.0 ∙ ap bits_in c.slot_of.ensures.0 in
    by_versions (count_in x) a.count (bits_in x) a.bits.now (version_in x) a.version
    (counts_same (count_in x) a.count (bits_in x) a.bits.now (version_in x) a.version _
    (ranked _ _ _ (c.cmp-by_count.ensures ∙ ap (λ n. nat_cmp n a.count) (c.wide-its.ensures.0 ∙ c.count_at.ensures))) (sym c.is_ne.ensures ∙ c.if-is_ne.false))
    (bits_same (count_in x) a.count (bits_in x) a.bits.now (version_in x) a.version _
    (subst (λ y. BytesStand c.bits_stand-by_bits.result y a.bits.now) own c.bits_stand-by_bits.ensures) (sym c.is_ne-2.ensures ∙ c.if-is_ne-2.false))
    c.version_stands.result c.version_stands.ensures
