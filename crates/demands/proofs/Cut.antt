-- An accepted pruning: the bytes that are left are those of the store that the definition leaves, slot by slot. Assumes nothing.
use Prim.Native.Nat.{ℕ, zero, suc, ◌≤◌, ◌<◌}
use native.Mathlib.Omega.{arith}
use mathlib.Core.Path.{◌≡◌, refl, ap, sym, ◌∙◌, subst, subst₂}
use mathlib.Core.Bool.{true, false}
use mathlib.Core.List.{List, [], ◌∷◌, map}
use lib.ListN.{length, get_or}
use Rattle.terms.specs.declared.Form.TheVariants.{Counted as counted}
use Rattle.terms.specs.Bits.{Bytes, Byte, All}
use Rattle.terms.specs.Fields.{le, num, zero_bytes}
use Rattle.terms.specs.Records.{Record, Slot, free, used, spoiled, Store}
use Rattle.terms.specs.Form.{top32}
use Rattle.terms.proofs.Fields.{num_le}
use Rattle.meaning.specs.Store.{on_record, retired_by, prune_record, pruned}
use Rattle.meaning.specs.Sound.{At, Kept, Sound}
use Rattle.meaning.specs.Calls.{accepted, refuse, prune}
use Rattle.histories.specs.Claims.{AfterPrune}
use Rattle.histories.proofs.Pruning.{cut}
use Rattle.histories.proofs.Calls.{prune_cases}
use Rattle.histories.proofs.Theorems.{prune_keeps_sound}
use Rattle.nodehash.specs.Node.{leaf_hash, inner_hash}
use Rattle.layout.specs.Slots.{slot_bytes}
use Rattle.layout.specs.Sizes.{slot_size}
use Rattle.layout.specs.Stores.{slot_in, store_of, store_bytes}
use Rattle.layout.proofs.Stores.{slot_in_lem}
use Rattle.promises.proofs.Calls.{sound_form, sound_back}
use Rattle.meaning.specs.Answers.{exports_refusal, exports_answer}
use Rattle.promises.specs.Calls.{SoundBytes, accepts}
use Rattle.contracts.specs.Contracts.{Prunes}
use Rattle.demands.specs.Claims.{Pruned}
use Rattle.demands.proofs.Stored.{stored_is, stored_sound, prune_form}
use Rattle.demands.proofs.Refusals.{no_refusal, never_0, prune_refusals, does_numbers}
use Rattle.demands.proofs.Alike.{same_tree_reads_as, same_trees_compare_as}
use Rattle.demands.proofs.Versions.{free_most}

-- an entry of a list that was mapped
mapped : (f : Slot → Slot) (xs : List Slot) (i : ℕ) → i < length xs → get_or (map f xs) i free ≡ f (get_or xs i free)
mapped f [] i h = absurd (omega arith)
mapped f (x ∷ xs) zero h = refl
mapped f (x ∷ xs) (suc i) h = mapped f xs i (omega arith)

-- the slots of a store that was pruned
pruned_free : (n : ℕ) (r : Record) → retired_by n r ≡ true → on_record (prune_record n) (used r) ≡ free
unfolding prune_record
pruned_free n r e = rw e

pruned_kept : (n : ℕ) (x : Slot) → ((r : Record) → x ≡ used r → retired_by n r ≡ false) → on_record (prune_record n) x ≡ x
unfolding prune_record
pruned_kept n free h = refl
pruned_kept n (used r) h = rw (h r refl)
pruned_kept n (spoiled x) h = refl

cut_by : (n : ℕ) (st : Store) (a : ℕ) → (prune n st).answer ≡ accepted a → (prune n st).store.slots ≡ pruned n st.slots
unfolding refuse cut
cut_by n st a e =
    prune_cases (λ o. o.answer ≡ accepted a → o.store.slots ≡ pruned n st.slots) n st (λ h f. no_refusal (sym f)) (λ h f. refl) e

kept_by_lem : (n : ℕ) (st : Store) (a : ℕ) → (prune n st).answer ≡ accepted a → Kept st n
unfolding refuse
kept_by_lem n st a e = prune_cases (λ o. o.answer ≡ accepted a → Kept st n) n st (λ h f. no_refusal (sym f)) (λ h f. h) e

module _ (n : ℕ) (s : Bytes) (bytes : All Byte s) (w : SoundBytes s) (a : ℕ) (e : (prune n (store_of s)).answer ≡ accepted a) where
  st'' : Store
  st'' = (prune n (store_of s)).store

  left_sound : Sound leaf_hash inner_hash st''
  unfolding st''
  left_sound = (prune_keeps_sound leaf_hash inner_hash n (store_of s) a w.sound e).sound

  -- slot i afterwards
  slot_left : (i : ℕ) → i < length (store_of s).slots →
      slot_in counted i (store_bytes st'') ≡ slot_bytes counted (on_record (prune_record n) (get_or (store_of s).slots i free))
  unfolding st''
  slot_left i h =
      let many : length st''.slots ≡ length (store_of s).slots =
      (prune_keeps_sound leaf_hash inner_hash n (store_of s) a w.sound e).capacity in
      subst (λ f. slot_in f i (store_bytes st'') ≡ slot_bytes f (get_or st''.slots i free)) (prune_form n (store_of s))
      (slot_in_lem st'' (sound_form st'' (prune_form n (store_of s)) left_sound) i (omega arith))
      ∙ ap (λ xs. slot_bytes counted (get_or xs i free)) (cut_by n (store_of s) a e)
      ∙ ap (slot_bytes counted) (mapped (on_record (prune_record n)) (store_of s).slots i h)

  slot_freed : (i : ℕ) (r : Record) → At (store_of s) i r → retired_by n r ≡ true → slot_in counted i (store_bytes st'') ≡ zero_bytes (slot_size counted)
  unfolding At slot_bytes
  slot_freed i r h f =
      slot_left i h.0 ∙ ap (λ x. slot_bytes counted (on_record (prune_record n) x)) h.1 ∙ ap (slot_bytes counted) (pruned_free n r f)

  slot_kept : (i : ℕ) → i < length (store_of s).slots → ((r : Record) → At (store_of s) i r → retired_by n r ≡ false) →
      slot_in counted i (store_bytes st'') ≡ slot_in counted i s
  unfolding At
  slot_kept i h f =
      slot_left i h ∙ ap (slot_bytes counted) (pruned_kept n (get_or (store_of s).slots i free) (λ r g. f r (h, g)))
      ∙ sym (slot_in_lem (store_of s) (sound_form (store_of s) refl w.sound) i h) ∙ ap (slot_in counted i) (sound_back w bytes)

-- An accepted pruning frees the records that it counts, and leaves the versions still kept their trees.
pub accepted_prune_frees : (n : ℕ) {s f t g : Bytes} → All Byte s → Prunes n s f 0 t g → Pruned n s t g
unfolding st''
accepted_prune_frees n {s} bytes w = go w refl
  where
    go : {f t g : Bytes} {r : ℕ} → Prunes n s f r t g → r ≡ 0 → Pruned n s t g
    go (exports_refusal d) z = absurd (never_0 (1 ∷ 2 ∷ 3 ∷ 8 ∷ []) refl (does_numbers (8 ∷ []) (prune_refusals n) d) z)
    go (exports_answer {a} (accepts w e)) z =
        let st = (prune n (store_of s)).store in
        let made = prune_keeps_sound leaf_hash inner_hash n (store_of s) a w.sound e in
        let few : a ≤ top32 = omega (arith, made.count, made.capacity, free_most st.slots, w.sound.size.1) in
        let said = stored_is st (prune_form n (store_of s)) made.sound in
        let after : AfterPrune leaf_hash inner_hash n (store_of s) (num (le 4 a)) (store_of (store_bytes st)) =
        subst₂ (λ k x. AfterPrune leaf_hash inner_hash n (store_of s) k x) (sym (num_le 4 a (omega arith))) (sym said) made in
        let here : Kept (store_of s) n = kept_by_lem n (store_of s) a e in
        let now_sound : SoundBytes (store_bytes st) = stored_sound st (prune_form n (store_of s)) made.sound in
        let before : (v : ℕ) → Kept (store_of (store_bytes st)) v → Kept (store_of s) v =
        λ v k. (omega (arith, here.0, after.oldest, k.0), omega (arith, after.latest, k.1)) in
        record {
          was = w;
          sound = now_sound;
          bytes = ap store_bytes (sym said);
          after = after;
          reads = λ v k. same_tree_reads_as now_sound w k (before v k) (after.trees v k);
          compares = λ v x k l. same_trees_compare_as now_sound w k l (before v k) (before x l) (after.trees v k) (after.trees x l);
          frees = λ i r h f. slot_freed n s bytes w a e i r h f;
          keeps = λ i h f. slot_kept n s bytes w a e i h f;
        }
