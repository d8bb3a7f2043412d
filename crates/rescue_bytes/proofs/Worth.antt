-- What an accepted rescue is worth: the target is the rescued store of the longest run, so each claim is a law of that store, read from the
-- bytes. Assumes nothing.
use Prim.Native.Nat.{ℕ, ◌+◌, ◌<◌, ◌≤◌}
use native.Mathlib.Omega.{arith}
use mathlib.Core.Path.{◌≡◌, refl, ap, ap₂, sym, ◌∙◌, subst}
use mathlib.Core.Bool.{true}
use mathlib.Core.List.{List}
use mathlib.Core.Option.{some}
use lib.ListN.{length, get_or}
use Rattle.terms.specs.declared.Form.TheVariants.{Counted as counted}
use Rattle.terms.specs.Bits.{Bytes, Byte, All, Place}
use Rattle.terms.specs.Form.{FormedAs, top32}
use Rattle.terms.specs.Records.{Record, Slot, free, used, spoiled, Store}
use Rattle.terms.proofs.Fields.{length_slice, all_slice}
use Rattle.terms.proofs.Members.{In, all_in}
use Rattle.meaning.specs.Store.{free_slots, marked, root_of, tree_at_version}
use Rattle.meaning.specs.Sound.{At, Kept, Sound}
use Rattle.meaning.specs.Calls.{accepted}
use Rattle.meaning.proofs.Finding.{used_eq}
use Rattle.histories.proofs.Whole.{Whole, sound_whole}
use Rattle.nodehash.specs.Node.{leaf_hash, inner_hash}
use Rattle.layout.specs.Sizes.{slot_size, slot_at, room_of}
use Rattle.layout.specs.Headers.{size_right}
use Rattle.layout.specs.Slots.{slot_of, slot_bytes, SlotForm}
use Rattle.layout.specs.Stores.{slot_in, slots_as, store_in, store_of, store_bytes, StoreForm}
use Rattle.layout.proofs.Headers.{size_says}
use Rattle.layout.proofs.Slots.{slot_back}
use Rattle.layout.proofs.Stores.{length_slots, slot_at_lem, slot_in_lem, store_said}
use Rattle.rescue_rules.specs.Rescue.{source_tree, in_run, fresh, taken, run_store, rescued, counts, Run, Longest}
use Rattle.rescue_laws.proofs.Runs.{Readable}
use Rattle.rescue_laws.proofs.Taken.{length_taken, taken_lowest}
use Rattle.rescue_laws.proofs.Steps.{slots_kept}
use Rattle.rescue_laws.proofs.Counts.{counts_add_up, same_is_same}
use Rattle.rescue_laws.proofs.Coming.{slots_of_lem}
use Rattle.rescue_laws.proofs.Again.{bounds, rescued_sound, rescued_tree, rescued_rooted}
use Rattle.rescue_bytes.specs.Numbers.{numbers_of}
use Rattle.rescue_bytes.specs.Rescues.{slots_in, Report, Rescues, rescues}
use Rattle.rescue_bytes.specs.Claims.{Worth}
use Rattle.rescue_bytes.proofs.Readable.{readable}
use Rattle.rescue_bytes.proofs.Numbers.{EachFrom, taken_from, numbers_are}

-- a sound store is in form
pub sound_form : (st : Store) → st.form ≡ counted → Sound leaf_hash inner_hash st → StoreForm st
sound_form st its ok =
    let w = sound_whole leaf_hash inner_hash st ok in
    record { some = w.size.0; fits = w.size.1; ordered = w.header.0; number = w.header.1; each = all_in (SlotForm st.form) st.slots (λ x h. go w x h) }
  where
    go : Whole leaf_hash inner_hash st → (x : Slot) → In x st.slots → SlotForm st.form x
    go w free h = tt
    go w (used r) h = (w.formed r h, subst (λ y. FormedAs y r) (sym its) tt)
    go w (spoiled x) h = absurd (w.whole x h)

-- a rescue writes the counted form
pub rescued_form : (s : List Slot) (f m : ℕ) → (rescued s f m).form ≡ counted
unfolding rescued run_store
rescued_form s f m = refl

module _ (oldest latest : ℕ) (s : List Slot) (z : Readable s latest) (f m : ℕ) (l : Longest leaf_hash inner_hash s oldest latest f m) where
  -- the target's bytes hold the rescued store
  pub target_is : store_of (store_bytes (rescued s f m)) ≡ rescued s f m
  target_is =
      ap (λ y. store_in y (store_bytes (rescued s f m))) (sym (rescued_form s f m))
      ∙ store_said (rescued s f m) (sound_form (rescued s f m) (rescued_form s f m) (rescued_sound leaf_hash inner_hash s oldest latest f m z l))

  -- a record of it is that of its slot in the source
  kept_slots : (i : ℕ) (q : Record) → At (rescued s f m) i q →
      (x : Record) × ((i < length s) × (get_or s i free ≡ used x)) × (q ≡ marked q.retired x) × (q.retired ≡ fresh s f m q.version q.place)
  unfolding At marked
  kept_slots i q (k, e) =
      let (x, g, d) = slots_kept (in_run s f m) (fresh s f m) s i q (ap (λ y. get_or y i free) (sym (slots_of_lem s f m)) ∙ e) in
      let r : q.retired ≡ fresh s f m x.version x.place = ap (λ y. y.retired) d in (
        x,
        (subst (λ n. i < n) (ap length (slots_of_lem s f m) ∙ length_taken (in_run s f m) (fresh s f m) s) k, g),
        d ∙ ap (λ n. marked n x) (sym r),
        r ∙ ap₂ (fresh s f m) (sym (ap (λ y. y.version) d)) (sym (ap (λ y. y.place) d)),
      )

  -- the numbers of the two buffers compared are those of their slots
  numbers_of_lem : (x : Bytes) → All Byte x → size_right counted (length x) ≡ true → slots_in x ≡ s → numbers_of x (store_bytes (rescued s f m)) ≡ counts s (rescued s f m).slots
  unfolding rescued run_store
  numbers_of_lem x h size e =
      let ts = taken (in_run s f m) (fresh s f m) s in
      numbers_are x f (f + m) ts h size (sound_form (rescued s f m) (rescued_form s f m) (rescued_sound leaf_hash inner_hash s oldest latest f m z l)).each
      (length_taken (in_run s f m) (fresh s f m) s ∙ ap length (sym e)) (subst (λ y. EachFrom y ts) (sym e) (taken_from (in_run s f m) (fresh s f m) s))
      ∙ ap (λ y. counts y ts) e

pub numbers_kept : {oldest latest f m : ℕ} (s t : Bytes) → All Byte s → latest ≤ top32 → size_right counted (length s) ≡ true → Longest leaf_hash inner_hash (slots_in s) oldest latest f m →
    t ≡ store_bytes (rescued (slots_in s) f m) → numbers_of s t ≡ counts (slots_in s) (slots_in t)
numbers_kept {oldest} {latest} {f} {m} s t h n size l e =
    let z = readable s h size latest n in
    ap (numbers_of s) e ∙ numbers_of_lem oldest latest (slots_in s) z f m l s h size refl
    ∙ sym (ap (λ y. counts (slots_in s) y.slots) (ap store_of e ∙ target_is oldest latest (slots_in s) z f m l))

-- a slot of the store is one of the bytes
inside : (s : Bytes) (i : ℕ) → i < length (slots_in s) → i < room_of counted (length s)
unfolding slots_as
inside s i h = subst (λ n. i < n) (length_slots counted (room_of counted (length s)) _) h

-- the bytes of a slot that holds a record are that record's
slot_then : (s : Bytes) → All Byte s → size_right counted (length s) ≡ true → (i : ℕ) (x : Record) → At (store_of s) i x →
    slot_in counted i s ≡ slot_bytes counted (used x)
unfolding At slot_in
slot_then s h z i x b =
    let k = inside s i b.0 in
    let long : length (slot_in counted i s) ≡ slot_size counted = length_slice (slot_at counted i) (slot_size counted) s (omega (arith, (size_says counted (length s) z).0)) in
    sym (slot_back counted (slot_in counted i s) long (all_slice (slot_at counted i) (slot_size counted) s h))
    ∙ ap (slot_bytes counted) (sym (slot_at_lem counted s i k) ∙ b.1)

pub worth : {oldest latest : ℕ} {s old t : Bytes} {r : Report} → All Byte s → latest ≤ top32 → Rescues oldest latest s old (accepted r) t →
    Worth oldest latest s t r
unfolding At
worth {oldest} {latest} {s} h n (rescues {f = f} {m = m} {t = t} size o l e) =
    let z = readable s h size.source latest n in
    let said : store_of t ≡ rescued (slots_in s) f m = ap store_of e ∙ target_is oldest latest (slots_in s) z f m l in
    let b = bounds (slots_in s) f m in
    let slots : slots_in t ≡ taken (in_run (slots_in s) f m) (fresh (slots_in s) f m) (slots_in s) = ap (λ y. y.slots) said ∙ slots_of_lem (slots_in s) f m in
    let numbers = counts_add_up (in_run (slots_in s) f m) (fresh (slots_in s) f m) (slots_in s) in
    let compared = numbers_kept s t h n size.source l e in
    let ok : Sound leaf_hash inner_hash (store_of t) = subst (Sound leaf_hash inner_hash) (sym said) (rescued_sound leaf_hash inner_hash (slots_in s) oldest latest f m z l) in
    let slot_now : (i : ℕ) (q : Record) → At (store_of t) i q → slot_in counted i t ≡ slot_bytes counted (used q) =
    λ i q a. ap (slot_in counted i) (e ∙ ap store_bytes (sym said)) ∙ slot_in_lem (store_of t) (sound_form (store_of t) refl ok) i a.0 ∙ ap (slot_bytes counted) a.1 in
    record {
      sound = ok;
      bytes = e ∙ ap store_bytes (sym said);
      begins = ap (λ y. y.oldest) said ∙ b.0;
      ends = ap (λ y. y.latest) said ∙ b.1 ∙ l.ends;
      low = l.kept;
      high = omega (arith, l.ends);
      rooted = subst (λ y. (v : ℕ) → Kept y v → (q : Record) × (root_of y v ≡ some q)) (sym said) (rescued_rooted leaf_hash inner_hash (slots_in s) oldest latest f m z l);
      trees = subst (λ y. (v : ℕ) → Kept y v → tree_at_version y v ≡ source_tree (slots_in s) v) (sym said) (λ v k.
          rescued_tree leaf_hash inner_hash (slots_in s) oldest latest f m z l v (omega (arith, b.0, k.0)) (omega (arith, b.1, k.1, l.ends)));
      longest = l.longest;
      slots = λ i q a. let (x, c, d, g) = kept_slots oldest latest (slots_in s) z f m l i q (subst (λ y. At y i q) said a) in
          (x, c, d, λ more k. g ∙ ap (λ y. fresh (slots_in s) f y q.version q.place) (omega (arith, l.ends, k)));
      lowest = λ i q a j x k b. taken_lowest (in_run (slots_in s) f m) (fresh (slots_in s) f m) (slots_in s) i j q x (ap (λ y. get_or y i free) (sym slots) ∙ a.1) k b.1;
      same_bytes_lem = λ i q x a b.
          let (y, c, d, g) = kept_slots oldest latest (slots_in s) z f m l i q (subst (λ y. At y i q) said a) in
          let its : q ≡ marked q.retired x = d ∙ ap (marked q.retired) (used_eq y x (sym c.1 ∙ b.1)) in (
            λ same. slot_then s h size.source i x b ∙ ap (λ r. slot_bytes counted (used r)) (sym (its ∙ same_is_same x q.retired same))
                ∙ sym (slot_now i q a),
            λ same. ap (λ r. r.retired) (used_eq x q (sym b.1 ∙ slot_at_lem counted s i (inside s i b.0) ∙ ap slot_of same
                ∙ sym (slot_at_lem counted t i (inside t i a.0)) ∙ a.1)),
          );
      adds_up = subst (λ c. c.same + c.other + c.out + free_slots (slots_in s) ≡ length (slots_in s)) (sym compared) (rw slots numbers.0);
      kept_adds_up = subst (λ c. c.same + c.other + free_slots (slots_in t) ≡ length (slots_in s)) (sym compared) (rw slots numbers.1);
    }
