-- A slot as the child of a parent, by its single fields. Assumes nothing.
use Prim.Native.Nat.{ℕ, ◌≤◌}
use native.Mathlib.Omega.{arith}
use mathlib.Core.Path.{◌≡◌, refl, ap, sym, ◌∙◌}
use mathlib.Core.Logic.{◌⊎◌, inl, ⊎_elim}
use mathlib.Core.Bool.{Bool, true, false, cond, not}
use lib.Dec.{eqb}
use borrow.Author.Tests.{ne_eqb, eqb-false, not-true}
use Rattle.terms.specs.declared.Form.{Form}
use Rattle.terms.specs.Bits.{Bytes, Byte, All}
use Rattle.terms.specs.Records.{Record, Slot, free, used, spoiled}
use Rattle.meaning.specs.Sight.{agrees}
use Rattle.meaning.specs.Sound.{At}
use Rattle.meaning.specs.Local.{ends_before}
use Rattle.meaning.proofs.Finding.{is_node_eq}
use Rattle.place.specs.declared.Place as declared-place
use Rattle.place.specs.Place.{place_of, Proper}
use Rattle.layout.specs.Sizes.{leaf_kind}
use Rattle.layout.specs.Slots.{inner_in, record_in, version_in, since_in, slot_of}
use Rattle.layout.specs.Stores.{slot_in, store_in, Has}
use Rattle.store.proofs.Slots.{slot_is}
use Rattle.agree.proofs.Agreeing.{agreed_version, agreed_node}
use Rattle.check_kin.specs.Kin.{ends_at, is_leaf_body}
use Rattle.check_pass.specs.Passes.{kind_in, Passed}
use Rattle.check_pass.proofs.Records.{record_cases, retired_of, free_zero, read_long, read_bytes, read_as, stands}
use Rattle.check_seen.specs.Seen.{OwnAt}
use Rattle.check_child.specs.Child.{Node, Outlives}

module _ {fm : Form} {s : Bytes} {c : ℕ} (h : Has fm s c) where
  -- a slot with a version or a kind, whose own fields are right, holds a record
  pub holds : All Byte s → OwnAt (store_in fm s) c → (version_in (slot_in fm c s) ≡ 0 → ⊥) ⊎ (kind_in (slot_in fm c s) ≡ 0 → ⊥) → (r : Record) × (slot_of (slot_in fm c s) ≡ used r)
  holds bytes own some = go (slot_of (slot_in fm c s)) refl
    where
      go : (y : Slot) → slot_of (slot_in fm c s) ≡ y → (r : Record) × (slot_of (slot_in fm c s) ≡ used r)
      go free e =
          let (a, b) = free_zero fm (slot_in fm c s) (read_long h refl) (read_bytes h refl bytes) e in
          absurd (⊎_elim (λ f. f a) (λ f. f b) some)
      go (used r) e = (r, e)
      go (spoiled y) e = absurd (own.whole y (slot_is h ∙ e))

  -- the node, by version, count and bits
  pub node_is : All Byte s → OwnAt (store_in fm s) c → (v : ℕ) → 1 ≤ v → (p : declared-place.Place) → Proper p → (t : Bool) →
      t ≡ agrees v (place_of p) (slot_in fm c s) → Passed t (Node fm s c v (place_of p))
  node_is bytes own v some p w true e =
      let (r, d) = holds bytes own (inl (λ z. omega (arith, agreed_version v (place_of p) (slot_in fm c s) (sym e)))) in
      let (a, b) = is_node_eq v (place_of p) r (agreed_node h bytes v p w (sym e) r d) in
      record { it = r; here = stands h refl r d; version = a; place = b }
  node_is bytes own v some p w false e = tt

  -- the end of life, and the kind
  module _ {latest n m ends : ℕ} (keeps : (store_in fm s).latest ≡ latest) (retired : n ≡ since_in (slot_in fm c s)) (end : m ≡ ends_at latest n) (le : ends ≤ m) where
    its_end : (r : Record) → At (store_in fm s) c r → ends ≤ ends_before (store_in fm s) r
    unfolding ends_before
    its_end r a = let same : r.retired ≡ n = retired_of (slot_in fm c s) r (read_as h refl r a) ∙ sym retired in rw (same, keeps, ← end) le

    pub some_other : (other : ℕ) → (other ≡ 0 → ⊥) → Outlives fm s c ends other
    some_other other f r a = (its_end r a, elim (is_leaf_body r.body) as (λ t. cond t (eqb other 0) false ≡ false) [ true ↦ ne_eqb other 0 f | false ↦ refl ])

    no_leaf_lem : (other : ℕ) {k : ℕ} → k ≡ kind_in (slot_in fm c s) → (k ≡ leaf_kind → ⊥) → Outlives fm s c ends other
    unfolding record_in inner_in
    no_leaf_lem other e f r a = (
      its_end r a,
      ⊎_elim (λ w. absurd (f (e ∙ w.0)))
          (λ w. ap (λ q. cond (is_leaf_body q.body) (eqb other 0) false) w.1) (record_cases (slot_in fm c s) r (read_as h refl r a)),
    )

    pub by_kind : (other : ℕ) {k : ℕ} → k ≡ kind_in (slot_in fm c s) → (t : Bool) → t ≡ not (eqb k leaf_kind) → Passed t (Outlives fm s c ends other)
    by_kind other {k} e true f = no_leaf_lem other e (eqb-false k leaf_kind (not-true (eqb k leaf_kind) (sym f)))
    by_kind other e false f = tt
