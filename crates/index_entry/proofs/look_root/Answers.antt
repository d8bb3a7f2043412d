-- `index_entry::look_root` meets its contract: form, bit count, version and lifetime decide, each where those before it do not. Assumes nothing.
use Prim.Native.Nat.{◌≤◌}
use native.Mathlib.Omega.{arith}
use mathlib.Core.Path.{◌≡◌, ap, ap₂, sym, ◌∙◌}
use mathlib.Core.Bool.{true}
use Rattle.terms.specs.declared.Form.TheVariants.{Counted as counted}
use Rattle.terms.specs.Bits.{Byte, All}
use Rattle.terms.proofs.Lists.{all_of}
use Rattle.layout.specs.Slots.{slot_of, count_in, version_in, since_in}
use Rattle.layout.specs.Stores.{slot_in}
use Rattle.store.proofs.Slots.{slot_within}
use Rattle.lookup.specs.Lookup.{is_used}
use Rattle.lifetime.specs.Lifetime.{covers}
use Rattle.index_entry.proofs.Entries.{root_unformed, root_deep, root_later, root_ended, root_covered}
use Rattle.index_entry.proofs.look_root.Goals as goal

pub slot_of-requires : goal.slot_of-requires
slot_of-requires c = slot_within c.requires

pub returns-then-not-holds_record : goal.returns-then-not-holds_record
returns-then-not-holds_record c =
    let all_bytes : All Byte c.args.store.now = all_of Byte c.args.store.now 0 (λ i _. omega (arith, c.shared_slice_known-1.given i)) in
    let form_is : c.holds_record.result ≡ is_used (slot_of (slot_in counted c.args.i c.args.store.now)) = c.holds_record.ensures ∙ ap (λ x. is_used (slot_of x)) c.slot_of.ensures.0 in
    root_unformed c.requires all_bytes c.args.version (sym form_is ∙ c.if-not-holds_record.true)

pub count_at-requires : goal.count_at-requires
count_at-requires c = slot_within c.requires

pub returns-then-count_at-ne0 : goal.returns-then-count_at-ne0
returns-then-count_at-ne0 c =
    let all_bytes : All Byte c.args.store.now = all_of Byte c.args.store.now 0 (λ i _. omega (arith, c.shared_slice_known-1.given i)) in
    let form_is : c.holds_record.result ≡ is_used (slot_of (slot_in counted c.args.i c.args.store.now)) = c.holds_record.ensures ∙ ap (λ x. is_used (slot_of x)) c.slot_of.ensures.0 in
    let formed : is_used (slot_of (slot_in counted c.args.i c.args.store.now)) ≡ true = sym form_is ∙ c.if-not-holds_record.false in
    root_deep c.requires all_bytes c.args.version formed (λ e. c.if-count_at-ne0.true (c.count_at.ensures ∙ e))

pub version_at-from-requires : goal.version_at-from-requires
version_at-from-requires c = slot_within c.requires

pub returns-then-version-from : goal.returns-then-version-from
returns-then-version-from c =
    let all_bytes : All Byte c.args.store.now = all_of Byte c.args.store.now 0 (λ i _. omega (arith, c.shared_slice_known-1.given i)) in
    let form_is : c.holds_record.result ≡ is_used (slot_of (slot_in counted c.args.i c.args.store.now)) = c.holds_record.ensures ∙ ap (λ x. is_used (slot_of x)) c.slot_of.ensures.0 in
    let formed : is_used (slot_of (slot_in counted c.args.i c.args.store.now)) ≡ true = sym form_is ∙ c.if-not-holds_record.false in
    let at_top : count_in (slot_in counted c.args.i c.args.store.now) ≡ 0 = sym c.count_at.ensures ∙ c.if-count_at-ne0.false in
    root_later c.requires all_bytes c.args.version formed at_top (omega (arith, c.version_at-from.ensures, c.if-version-from.true))

pub retired_at-requires : goal.retired_at-requires
retired_at-requires c = slot_within c.requires

pub returns-then-not-covers : goal.returns-then-not-covers
returns-then-not-covers c =
    let all_bytes : All Byte c.args.store.now = all_of Byte c.args.store.now 0 (λ i _. omega (arith, c.shared_slice_known-1.given i)) in
    let form_is : c.holds_record.result ≡ is_used (slot_of (slot_in counted c.args.i c.args.store.now)) = c.holds_record.ensures ∙ ap (λ x. is_used (slot_of x)) c.slot_of.ensures.0 in
    let formed : is_used (slot_of (slot_in counted c.args.i c.args.store.now)) ≡ true = sym form_is ∙ c.if-not-holds_record.false in
    let at_top : count_in (slot_in counted c.args.i c.args.store.now) ≡ 0 = sym c.count_at.ensures ∙ c.if-count_at-ne0.false in
    let begun : version_in (slot_in counted c.args.i c.args.store.now) ≤ c.args.version = omega (arith, c.version_at-from.ensures, c.if-version-from.false) in
    let covered-is : c.covers.result ≡ covers (version_in (slot_in counted c.args.i c.args.store.now)) (since_in (slot_in counted c.args.i c.args.store.now)) c.args.version = c.covers.ensures ∙ ap₂ (λ a b. covers a b c.args.version) c.version_at-from.ensures c.retired_at.ensures in
    root_ended c.requires all_bytes c.args.version formed at_top begun (sym covered-is ∙ c.if-not-covers.true)

pub returns : goal.returns
returns c =
    let all_bytes : All Byte c.args.store.now = all_of Byte c.args.store.now 0 (λ i _. omega (arith, c.shared_slice_known-1.given i)) in
    let form_is : c.holds_record.result ≡ is_used (slot_of (slot_in counted c.args.i c.args.store.now)) = c.holds_record.ensures ∙ ap (λ x. is_used (slot_of x)) c.slot_of.ensures.0 in
    let formed : is_used (slot_of (slot_in counted c.args.i c.args.store.now)) ≡ true = sym form_is ∙ c.if-not-holds_record.false in
    let at_top : count_in (slot_in counted c.args.i c.args.store.now) ≡ 0 = sym c.count_at.ensures ∙ c.if-count_at-ne0.false in
    let begun : version_in (slot_in counted c.args.i c.args.store.now) ≤ c.args.version = omega (arith, c.version_at-from.ensures, c.if-version-from.false) in
    let covered-is : c.covers.result ≡ covers (version_in (slot_in counted c.args.i c.args.store.now)) (since_in (slot_in counted c.args.i c.args.store.now)) c.args.version = c.covers.ensures ∙ ap₂ (λ a b. covers a b c.args.version) c.version_at-from.ensures c.retired_at.ensures in
    root_covered c.requires all_bytes c.args.version formed at_top begun (sym covered-is ∙ c.if-not-covers.false)
