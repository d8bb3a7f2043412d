-- The passes together: where none finds anything wrong, each slot passes. Assumes nothing.
use Prim.Native.Nat.{ℕ, zero, suc, ◌<◌, ◌≤◌}
use native.Mathlib.Omega.{arith}
use mathlib.Core.Path.{◌≡◌, refl, sym, ◌∙◌, subst}
use mathlib.Core.Bool.{Bool, true, false, cond, true≢false}
use mathlib.Core.List.{List}
use lib.ListN.{length, get_or, replicate}
use lib.Dec.{eqb}
use borrow.Author.Tests.{eqb-false}
use Rattle.std.specs.Prelude.{Option, Some, None, is_some}
use Rattle.terms.specs.declared.Form.{Form}
use Rattle.terms.specs.Bits.{Bytes, Byte, All}
use Rattle.terms.specs.Records.{Record, used}
use Rattle.meaning.specs.Sound.{At}
use Rattle.meaning.specs.Local.{ends_before}
use Rattle.local.specs.Test.{slots_test}
use Rattle.local.proofs.Records.{slot_elim}
use Rattle.nodehash.specs.Node.{leaf_hash, inner_hash}
use Rattle.layout.specs.Sizes.{most_slots, room_of}
use Rattle.layout.proofs.Headers.{size_says}
use Rattle.layout.specs.Slots.{version_in, since_in, slot_of}
use Rattle.layout.specs.Stores.{slot_in, store_in, slot_no, Has}
use Rattle.store.proofs.Slots.{slots_many, slot_is}
use Rattle.check_kin.specs.declared.Kept as declared-kept
use Rattle.check_kin.specs.Kin.{ends_at}
use Rattle.check_order.specs.Order.{node_key, InOrder, Named, NamedAt}
use Rattle.check_order.proofs.Unique.{node_key_by_node, ascending_unique}
use Rattle.check_order.proofs.Parting.{roots_parted}
use Rattle.check_cover.specs.Cover.{CoveredAt}
use Rattle.check_child.specs.Child.{Ready}
use Rattle.check_tie.specs.Side.{AllTied}
use Rattle.check_pass.specs.Passes.{Room, Each}
use Rattle.check_pass.proofs.Records.{version_of_lem, retired_of, free_zero, read_long, read_bytes, stands}
use Rattle.check_seen.specs.Seen.{OwnAt}
use Rattle.check_seen.proofs.Seen.{own_lives, seen_passes}
use Rattle.check_seen.proofs.Sums.{under_start, under_end}
use Rattle.check_quick.specs.Look.{Sure, Alone, Linked}

pub sure_map : (q : Option ℕ) {x y : Type 0} → (x → y) → Sure q x → Sure q y
sure_map None f p = f p
sure_map (Some i) f p = tt

pub sure_is : {q : Option ℕ} {a : Type 0} → q ≡ None → Sure q a → a
sure_is {q} {a} e = subst (λ p. Sure p a) e

pub sure_none : (q : Option ℕ) {a : Type 0} → is_some q ≡ false → Sure q a → a
sure_none None e p = p
sure_none (Some i) e p = absurd (true≢false e)

pub zeros : (n i : ℕ) → get_or {A = ℕ} (replicate n 0) i 0 ≡ 0
zeros zero i = refl
zeros (suc n) zero = refl
zeros (suc n) (suc i) = zeros n i

-- a store has at most 16,384 slots
pub room_fits : {fm : Form} (s : Bytes) {n : ℕ} → Room fm s n → n ≤ most_slots
room_fits {fm} s r = omega (arith, r.many, size_says fm (length s) r.size)

module _ (fm : Form) (s : Bytes) where
  -- a record's slot is one of the store's
  inside : (i : ℕ) (r : Record) → At (store_in fm s) i r → i < room_of fm (length s)
  unfolding At
  inside i r a = omega (arith, a.0, slots_many fm s)

  -- each life ends after the version it begins at; a free slot has version 0
  lives : {k : declared-kept.Kept} → Ready fm s k → All Byte s → (i : ℕ) → Has fm s i → version_in (slot_in fm i s) < ends_at k.latest (since_in (slot_in fm i s))
  unfolding ends_before
  lives {k} ready bytes i h =
      slot_elim (λ y. slot_no fm i s ≡ y → version_in (slot_in fm i s) < ends_at k.latest (since_in (slot_in fm i s))) (slot_no fm i s)
      (λ e. omega (arith, (free_zero fm (slot_in fm i s) (read_long h refl) (read_bytes h refl bytes) (sym (slot_is h) ∙ e)).0, ends_some k.latest (since_in (slot_in fm i s))))
      (λ x e f. absurd ((ready.own i h.inside).whole x e))
      (λ r e f.
      let here : slot_of (slot_in fm i s) ≡ used r = sym (slot_is h) ∙ e in
      rw (← version_of_lem (slot_in fm i s) r here, ← retired_of (slot_in fm i s) r here, ← ready.keeps.latest)
      (own_lives (store_in fm s) r ((ready.own i h.inside).own r (stands h refl r here)))) refl
    where
      ends_some : (l n : ℕ) → 0 < ends_at l n
      ends_some l n = go (eqb n 0) refl
        where
          go : (b : Bool) → eqb n 0 ≡ b → 0 < cond b (suc l) n
          go true e = omega arith
          go false e = let f = eqb-false n 0 e in omega arith

  -- the entries follow each other, and each record is named
  pub all_alone : {kept : declared-kept.Kept} → Ready fm s kept → All Byte s → (t : List ℕ) (m k n : ℕ) → m ≤ k → InOrder fm kept.latest s t k →
      room_of fm (length s) ≤ n → Each (NamedAt fm s t m) n → Alone (store_in fm s)
  all_alone {kept} ready bytes t m k n le steps ln named =
      let order : InOrder fm kept.latest s t m = λ i h. steps i (omega arith) in
      let all : (i : ℕ) (r : Record) → At (store_in fm s) i r → Named t m i
      = λ i r a. named i (omega (arith, inside i r a)) r a ((ready.own i (inside i r a)).own r a).some in
      record {
        unique = ascending_unique fm node_key s t m (λ i h. (order i h).up) ready.keeps.size bytes (node_key_by_node fm) all;
        parted = roots_parted fm kept.latest s t m order (lives ready bytes) ready.keeps.size bytes ready.keeps.latest all;
      }

  -- the links, and the lives that were added up from nothing
  pub all_linked : (xs ys : List ℕ) → ((i : ℕ) → get_or xs i 0 ≡ 0) → AllTied fm s (room_of fm (length s)) xs ys → (n : ℕ) → room_of fm (length s) ≤ n →
      Each (CoveredAt fm s ys) n → Linked leaf_hash inner_hash (store_in fm s)
  all_linked xs ys none w n ln covers = record {
    tied = λ i r a. w.tied i (inside i r a) r a;
    covered = λ i r a below. under_end (store_in fm s) (room_of fm (length s)) ys (w.under (under_start (store_in fm s) xs none)) i r a
        (covers i (omega (arith, inside i r a)) r a below);
  }

  pub all_fine : (n : ℕ) → room_of fm (length s) ≤ n → Each (OwnAt (store_in fm s)) n → Alone (store_in fm s) → Linked leaf_hash inner_hash (store_in fm s) →
      slots_test leaf_hash inner_hash (store_in fm s) ≡ true
  all_fine n ln own alone linked =
      seen_passes leaf_hash inner_hash (store_in fm s) alone.unique alone.parted
      (λ i r a. record {
        own = (own i (omega (arith, inside i r a))).own r a;
        tied = linked.tied i r a;
        covered = linked.covered i r a;
      })
      (λ i x l e. (own i (omega (arith, slots_many fm s))).whole x e)
