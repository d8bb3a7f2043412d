-- A guess that is looked at: a slot that holds a node is where it is found, since it is in one slot at most. Assumes nothing.
use Prim.Native.Nat.{ℕ, ◌<◌, ◌≤◌}
use native.Mathlib.Omega.{arith}
use mathlib.Core.Path.{◌≡◌, refl, ap, ◌∙◌, subst}
use mathlib.Core.Bool.{Bool, true}
use mathlib.Core.List.{List, [], ◌∷◌}
use mathlib.Core.Option.{none}
use lib.ListN.{length}
use Rattle.terms.specs.declared.Form.TheVariants.{Counted as counted}
use Rattle.terms.specs.Bits.{Bytes, All, Place}
use Rattle.terms.specs.Records.{Slot, free, used, spoiled}
use Rattle.meaning.specs.Store.{find}
use Rattle.histories.proofs.Slots.{not_node}
use Rattle.place.specs.declared.Place as place
use Rattle.place.specs.Place.{place_of}
use Rattle.layout.specs.Sizes.{most_slots, room_of}
use Rattle.layout.specs.Slots.{SlotForm}
use Rattle.layout.specs.Stores.{store_of, SlotWithin}
use Rattle.layout.proofs.Headers.{size_says}
use Rattle.store.proofs.Slots.{slot_within}
use Rattle.guess.specs.Guess.{NodeAt}
use Rattle.guess.proofs.Looking.{slot_has}
use Rattle.std.specs.Prelude.{Some, None}
use Rattle.lookup.specs.Lookup.{FoundIn}
use Rattle.apply_place.specs.Placing.{Stored}
use Rattle.apply_place.proofs.Changing.{stored_size}
use Rattle.apply_place.proofs.Marking.{single_finds}
use Rattle.apply_guess.specs.Guess.{Once}

-- no record has version 0
none_found : (p : Place) (s : List Slot) → All (SlotForm counted) s → find 0 p s ≡ none
none_found p [] f = refl
none_found p (free ∷ s) f = none_found p s f.1
none_found p (used r ∷ s) f = rw (not_node 0 p r (λ a b. omega (arith, f.0.0.versioned))) (none_found p s f.1)
none_found p (spoiled x ∷ s) f = none_found p s f.1

module _ {s : Bytes} {v : ℕ} {p : place.Place} (w : Once s v p) where
  pub no_version : v ≡ 0 → FoundIn (store_of s).slots v (place_of p) None
  no_version e = ap (λ u. find u (place_of p) (store_of s).slots) e ∙ none_found (place_of p) (store_of s).slots w.stored.form.each

  pub guessed : {i : ℕ} {t : Bool} → t ≡ true → NodeAt s i v (place_of p) t → FoundIn (store_of s).slots v (place_of p) (Some i)
  guessed {i} e h =
      let (l, (r, u, n)) = subst (NodeAt s i v (place_of p)) e h in
      (l, (r, u, single_finds 0 v (place_of p) (store_of s).slots i r w.single u n))

-- the bytes of a store of n slots
pub record Room (s : Bytes) (n : ℕ) : Type 0 where
  pub stored : Stored s
  pub many : n ≡ room_of counted (length s)
  pub small : n ≤ most_slots

pub room_of_store : {s : Bytes} {n : ℕ} → Stored s → n ≡ room_of counted (length s) → Room s n
room_of_store {s} h e = record { stored = h; many = e; small = omega (arith, size_says counted (length s) (stored_size h)) }

pub room_slot : {s : Bytes} {n i : ℕ} → Room s n → i < n → SlotWithin counted i s
room_slot {s} r l = slot_within (slot_has s (stored_size r.stored) r.many l)
