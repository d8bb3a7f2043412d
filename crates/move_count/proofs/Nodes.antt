-- A slot as the node asked for, and the leaves at it. Assumes nothing.
use Prim.Native.Nat.{ℕ, ◌+◌, ◌*◌, ◌<◌, ◌≤◌}
use native.Mathlib.Omega.{arith}
use mathlib.Core.Path.{◌≡◌, refl, ap, ap₂, sym, ◌∙◌}
use mathlib.Core.Logic.{⊎_elim}
use mathlib.Core.Bool.{Bool, true, false}
use mathlib.Core.List.{List}
use mathlib.Core.Option.{Option, none, some}
use lib.ListN.{length, get_or}
use Rattle.terms.specs.declared.Form.TheVariants.{Plain as plain}
use Rattle.terms.specs.Bits.{Bytes, Byte, All, Place}
use Rattle.terms.specs.Records.{Body, leaf_body, inner_body, Record, Slot, free, used, spoiled}
use Rattle.meaning.specs.Store.{find}
use Rattle.meaning.specs.Sound as sound
use Rattle.meaning.specs.Sight.{agrees}
use Rattle.meaning.specs.Counting.{weight_by}
use Rattle.meaning.proofs.Finding.{is_node_eq, found_in, at_find}
use Rattle.moved.specs.Moving.{counts_in}
use Rattle.place.specs.declared.Place as declared-place
use Rattle.place.specs.Place.{place_of, Proper}
use Rattle.layout.specs.Sizes.{room_of}
use Rattle.layout.specs.Slots.{leaf_in, inner_in, record_in, version_in, slot_of}
use Rattle.layout.specs.Stores.{slot_in, Has}
use Rattle.layout.proofs.Headers.{size_says}
use Rattle.std.specs.Prelude.{Some, None}
use Rattle.lookup.specs.Lookup.{FoundIn}
use Rattle.store.proofs.Slots.{slots_many, slot_is}
use Rattle.agree.proofs.Agreeing.{agreed_version, agreed_node}
use Rattle.check_pass.specs.Passes.{kind_in}
use Rattle.check_pass.proofs.Records.{kind_most, record_cases, free_zero, read_long, read_bytes, stands}
use Rattle.move_put.specs.Put.{tally_at}
use Rattle.move_count.specs.Count.{Countable, plain_store, NodeIn, leaves_of, leaves_at, WeighsIn, CountedFrom}
use Rattle.move_count.proofs.Leaves.{few_counts}

pub slot_has : (s : Bytes) {n i : ℕ} → Countable s → n ≡ room_of plain (length s) → i < n → Has plain s i
slot_has s w e l = record { size = w.size; inside = omega (arith, e) }

module _ {s : Bytes} (w : Countable s) where
  -- version 0 is no node
  pub no_version : (v : ℕ) (p : Place) → v ≡ 0 → FoundIn (plain_store s).slots v p None
  unfolding sound.At
  no_version v p e = go (find v p (plain_store s).slots) refl
    where
      go : (o : Option Record) → find v p (plain_store s).slots ≡ o → o ≡ none
      go none f = refl
      go (some q) f =
          let (i, a, b, d) = found_in (plain_store s).slots v p q f in
          absurd (omega (arith, (w.sound.versions i q a).0, b, e))

  module _ (bytes : All Byte s) {c : ℕ} (h : Has plain s c) where
    -- a slot with a version holds a record
    holds : (version_in (slot_in plain c s) ≡ 0 → ⊥) → (r : Record) × (slot_of (slot_in plain c s) ≡ used r)
    holds f = go (slot_of (slot_in plain c s)) refl
      where
        go : (y : Slot) → slot_of (slot_in plain c s) ≡ y → (r : Record) × (slot_of (slot_in plain c s) ≡ used r)
        go free e = absurd (f (free_zero plain (slot_in plain c s) (read_long h refl) (read_bytes h refl bytes) e).0)
        go (used r) e = (r, e)
        go (spoiled y) e = absurd (w.sound.whole c y (omega (arith, h.inside, slots_many plain s)) (slot_is h ∙ e))

    -- the node, by version, count and bits
    pub node_in : (v : ℕ) → 1 ≤ v → (p : declared-place.Place) → Proper p → (t : Bool) → t ≡ agrees v (place_of p) (slot_in plain c s) → NodeIn s c v (place_of p) t
    unfolding sound.At
    node_in v one p k true e =
        let (r, d) = holds (λ z. omega (arith, agreed_version v (place_of p) (slot_in plain c s) (sym e))) in
        let here = stands h refl r d in
        let (a, b) = is_node_eq v (place_of p) r (agreed_node h bytes v p k (sym e) r d) in
        (here.0, (r, here.1, ap₂ (λ x y. find x y (plain_store s).slots) (sym a) (sym b) ∙ at_find (plain_store s) w.sound.unique c r here))
    node_in v one p k false e = tt

  -- the leaves at what was found
  module _ (v : ℕ) (p : Place) where
    pub found_has : {c : ℕ} → FoundIn (plain_store s).slots v p (Some c) → Has plain s c
    found_has k = record { size = w.size; inside = omega (arith, k.0, slots_many plain s) }

    pub found_weighs : {t : List ℕ} {c m n : ℕ} → length p ≡ m → CountedFrom s t m → FoundIn (plain_store s).slots v p (Some c) → WeighsIn s t c n →
        (n ≡ leaves_at s v p) × (n ≤ 16384)
    unfolding sound.At
    found_weighs {t} {c} {m} {n} long done (l, (q, u, f)) weighs =
        let same = weighs q u ∙ go q.body refl in
        (same ∙ sym (ap (leaves_of (plain_store s).slots) f), omega (arith, same, few q.body))
      where
        there : q.place ≡ p
        there = (found_in (plain_store s).slots v p q f).3

        go : (b : Body) → q.body ≡ b → weight_by b (tally_at t c) ≡ weight_by b (counts_in (plain_store s).slots q)
        go (leaf_body k x) e = refl
        go (inner_body a b) e = ap (weight_by (inner_body a b)) (done.right c q a b (l, u) e (omega (arith, ap length there, long)))

        few : (b : Body) → weight_by b (counts_in (plain_store s).slots q) ≤ 16384
        few (leaf_body k x) = omega arith
        few (inner_body a b) = omega (arith, few_counts (plain_store s).slots q, size_says plain (length s) w.size, slots_many plain s)

-- the leaves at a slot, by its kind
module _ {s : Bytes} {c : ℕ} (h : Has plain s c) (t : List ℕ) where
  pub leaf_weighs : {k : ℕ} → k ≡ kind_in (slot_in plain c s) → k ≡ 2 → WeighsIn s t c 1
  unfolding record_in leaf_in
  leaf_weighs e f q u = ⊎_elim (λ w. ap (λ (r : Record). weight_by r.body (tally_at t c)) (sym w.1))
      (λ w. absurd (omega (arith, w.0, kind_most (length (slot_in plain c s)), e, f))) (record_cases (slot_in plain c s) q (sym (slot_is h) ∙ u))

  pub inner_weighs : {k a b : ℕ} → k ≡ kind_in (slot_in plain c s) → (k ≡ 2 → ⊥) → a ≡ get_or t (2 * c) 0 → b ≡ get_or t (2 * c + 1) 0 → WeighsIn s t c (a + b)
  unfolding record_in inner_in
  inner_weighs e f g k q u = ⊎_elim (λ w. absurd (f (e ∙ w.0)))
      (λ w. ap₂ ◌+◌ g k ∙ ap (λ (r : Record). weight_by r.body (tally_at t c)) (sym w.1)) (record_cases (slot_in plain c s) q (sym (slot_is h) ∙ u))
