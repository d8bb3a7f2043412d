-- What an accepted batch leaves in each slot: from what the definition leaves of the store, through the bytes. Assumes nothing.
use Prim.Native.Nat.{ℕ, zero, suc, ◌≤◌, ◌<◌}
use native.Mathlib.Omega.{arith}
use mathlib.Core.Path.{◌≡◌, refl, ap, sym, ◌∙◌, subst}
use mathlib.Core.List.{List, [], ◌∷◌, map}
use mathlib.Core.Option.{some}
use lib.ListN.{length, get_or, take, length-map}
use Rattle.terms.specs.declared.Form.TheVariants.{Counted as counted}
use Rattle.terms.specs.Bits.{Bytes, Byte, All}
use Rattle.terms.specs.Fields.{le}
use Rattle.terms.specs.Form.{top32}
use Rattle.terms.specs.Records.{Ask, Record, Slot, free, used, spoiled, Store}
use Rattle.meaning.specs.Store.{free_slots, placed, on_record, retire_in, retire, marked, settled, new_records, records_of, tree_at_version}
use Rattle.meaning.specs.Tree.{VTree, next_tree}
use Rattle.meaning.specs.Sound.{At, NodeOf}
use Rattle.meaning.specs.Calls.{accepted, refuse, Applied, apply}
use Rattle.histories.proofs.Calls.{records_needed, apply_cases}
use Rattle.nodehash.specs.Node.{leaf_hash, inner_hash}
use Rattle.layout.specs.Sizes.{retired_at}
use Rattle.layout.specs.Slots.{slot_bytes}
use Rattle.layout.specs.Stores.{slot_in, store_of, store_bytes}
use Rattle.layout.proofs.Slots.{retired_put}
use Rattle.layout.proofs.Stores.{slot_in_lem}
use Rattle.fields.specs.Written.{written}
use Rattle.promises.specs.Calls.{SoundBytes}
use Rattle.promises.proofs.Calls.{sound_form, sound_back}
use Rattle.contracts.specs.Contracts.{Applies}
use Rattle.demands.specs.Claims.{tree_of_version, latest_of}
use Rattle.demands.specs.Placing.{Places}
use Rattle.demands.proofs.Refusals.{no_refusal}
use Rattle.demands.proofs.Versions.{Makes, makes, store_is, after, sound}

-- a free slot stays free when records are retired
retire_free : (f : Record → Slot) (s : List Slot) (i : ℕ) → i < length s → get_or s i free ≡ free → get_or (map (on_record f) s) i free ≡ free
retire_free f [] i h e = refl
retire_free f (x ∷ s) zero h e = ap (on_record f) e
retire_free f (x ∷ s) (suc i) h e = retire_free f s i (omega arith) e

-- and as many are free before any slot
retire_many : (new : ℕ) (old now : List Record) (s : List Slot) (i : ℕ) →
    free_slots (take i (retire new old now s)) ≡ free_slots (take i s)
unfolding retire_in
retire_many new old now [] i = refl
retire_many new old now (x ∷ s) zero = refl
retire_many new old now (free ∷ s) (suc i) = ap suc (retire_many new old now s i)
retire_many new old now (used r ∷ s) (suc i) = retire_many new old now s i
retire_many new old now (spoiled x ∷ s) (suc i) = retire_many new old now s i

-- of the new records the one with n before it; a slot for which there is none stays free.
abbrev slot_for : ℕ → List Record → Slot
slot_for n [] = free
slot_for zero (r ∷ rs) = used r
slot_for (suc n) (r ∷ rs) = slot_for n rs

slot_for_lem : (n : ℕ) (rs : List Record) → slot_for n rs ≡ get_or (map used rs) n free
slot_for_lem n [] = refl
slot_for_lem zero (r ∷ rs) = refl
slot_for_lem (suc n) (r ∷ rs) = slot_for_lem n rs

-- what stands in a slot that was free
placed_free : (rs : List Record) (s : List Slot) (i : ℕ) → i < length s → get_or s i free ≡ free →
    get_or (placed rs s) i free ≡ slot_for (free_slots (take i s)) rs
placed_free rs [] i h e = absurd (omega arith)
placed_free [] (free ∷ s) i h e = e
placed_free (r ∷ rs) (free ∷ s) zero h e = refl
placed_free (r ∷ rs) (free ∷ s) (suc i) h e = placed_free rs s i (omega arith) e
placed_free rs (used x ∷ s) zero h e = let z : ◌≡◌ {A = ℕ} 0 1 = cc in absurd (omega arith)
placed_free rs (used x ∷ s) (suc i) h e = placed_free rs s i (omega arith) e
placed_free rs (spoiled x ∷ s) zero h e = let z : ◌≡◌ {A = ℕ} 0 1 = cc in absurd (omega arith)
placed_free rs (spoiled x ∷ s) (suc i) h e = placed_free rs s i (omega arith) e

-- the slots that the definition leaves
slots_made : (number : ℕ) (asks : List Ask) (st : Store) (a : Applied) → (apply leaf_hash inner_hash number (some asks) st).answer ≡ accepted a →
    (apply leaf_hash inner_hash number (some asks) st).store.slots
    ≡ placed (records_needed leaf_hash inner_hash number asks st)
    (retire number (records_of leaf_hash inner_hash (tree_at_version st st.latest))
    (records_of leaf_hash inner_hash (next_tree number (tree_at_version st st.latest) asks)) st.slots)
unfolding refuse settled
slots_made number asks st a =
    apply_cases leaf_hash inner_hash
    (λ o. o.answer ≡ accepted a → o.store.slots
    ≡ placed (records_needed leaf_hash inner_hash number asks st)
    (retire number (records_of leaf_hash inner_hash (tree_at_version st st.latest))
    (records_of leaf_hash inner_hash (next_tree number (tree_at_version st st.latest) asks)) st.slots))
    number asks st (λ b e. no_refusal (sym e)) (λ b m e. no_refusal (sym e)) (λ b m h e. no_refusal (sym e)) (λ b m room e. refl)

module _ {number : ℕ} {batch s t g : Bytes} (small : number ≤ top32) (bytes : All Byte s) (m : Makes number batch s t g) where
  abbrev old : Store
  old = store_of s

  abbrev new : Store
  new = store_of t

  latest : new.latest ≡ number
  latest = (after small m).latest

  many : length new.slots ≡ length old.slots
  many = (after small m).capacity

  -- slot i before and afterwards
  slot_then : (i : ℕ) → i < length old.slots → slot_in counted i s ≡ slot_bytes counted (get_or old.slots i free)
  slot_then i h =
      ap (slot_in counted i) (sym (sound_back m.was bytes)) ∙ slot_in_lem old (sound_form old refl m.was.sound) i h

  slot_now : (i : ℕ) → i < length old.slots → slot_in counted i t ≡ slot_bytes counted (get_or new.slots i free)
  slot_now i h =
      ap (slot_in counted i) (m.bytes ∙ ap store_bytes (sym (store_is small m)))
      ∙ slot_in_lem new (sound_form new refl (sound small m).sound) i (omega (arith, many))

  abbrev new_tree : VTree
  new_tree = tree_of_version t number

  tree_now : tree_at_version new new.latest ≡ new_tree
  tree_now = ap (tree_at_version new) latest

  needed : records_needed leaf_hash inner_hash number m.asks old ≡ new_records leaf_hash inner_hash number new_tree
  needed =
      ap (new_records leaf_hash inner_hash number)
      (ap (λ v. next_tree v (tree_at_version old old.latest) m.asks) (sym latest) ∙ sym (after small m).tree ∙ tree_now)

  places : Places number s t
  unfolding At slot_bytes marked
  places = record {
    retires = λ i r at there gone.
        let now = (after small m).ends i r at there (λ n. gone (subst (λ x. NodeOf r.version r.place x []) tree_now n)) in
        slot_now i at.0 ∙ ap (slot_bytes counted) (now.1 ∙ ap (λ n. used (marked n r)) latest)
        ∙ marked_bytes number r
        ∙ ap (written retired_at (le 4 number)) (ap (slot_bytes counted) (sym at.1) ∙ sym (slot_then i at.0));
    keeps = λ i r at stays.
        let now = (after small m).stays i r at (λ n. subst (λ x. NodeOf r.version r.place x []) (sym tree_now) (stays n)) in
        slot_now i at.0 ∙ ap (slot_bytes counted) (now.1 ∙ sym at.1) ∙ sym (slot_then i at.0);
    fills = λ i h e. slot_now i h ∙ ap (slot_bytes counted) (filled i h e);
  }
    where
      marked_bytes : (n : ℕ) (r : Record) → slot_bytes counted (used (marked n r)) ≡ written retired_at (le 4 n) (slot_bytes counted (used r))
      marked_bytes n r = retired_put counted r n

      filled : (i : ℕ) → i < length old.slots → get_or old.slots i free ≡ free →
          get_or new.slots i free ≡ get_or (map used (new_records leaf_hash inner_hash number new_tree)) (free_slots (take i old.slots)) free
      filled i h e =
          let was = records_of leaf_hash inner_hash (tree_at_version old old.latest) in
          let now = records_of leaf_hash inner_hash (next_tree number (tree_at_version old old.latest) m.asks) in
          ap (λ st. get_or st.slots i free) (store_is small m)
          ∙ ap (λ xs. get_or xs i free) (slots_made number m.asks old m.answer m.accepted_as)
          ∙ placed_free _ (retire number was now old.slots) i (rw (length-map old.slots (on_record (retire_in number was now))) h) (retire_free _ old.slots i h e)
          ∙ ap (λ n. slot_for n (records_needed leaf_hash inner_hash number m.asks old)) (retire_many number was now old.slots i)
          ∙ ap (slot_for (free_slots (take i old.slots))) needed
          ∙ slot_for_lem (free_slots (take i old.slots)) (new_records leaf_hash inner_hash number new_tree)

-- An accepted batch retires, keeps and fills slots as 01 says.
pub accepted_batch_places : (number : ℕ) (batch : Bytes) {s f t g : Bytes} → number ≤ top32 → All Byte s →
    Applies number batch s f 0 t g → Places number s t
accepted_batch_places number batch small bytes w = places small bytes (makes number batch w refl)
