-- 2026-01: the records of a list of changes, one by one as its bytes: each says what one of the two versions says of its key, and they are in
-- key order. What changed is exact and ordered (`WhatChanged`), and a record has 72 bytes. Assumes nothing.
use Prim.Native.Nat.{ℕ, zero, suc, ◌+◌, ◌*◌, ◌<◌}
use native.Mathlib.Omega.{arith}
use mathlib.Core.Path.{◌≡◌, refl, ap, ap₂, sym, ◌∙◌, subst}
use mathlib.Core.Logic.{◌⊎◌, inl, inr, ⊎_elim}
use mathlib.Core.Bool.{Bool, true, false, cond}
use mathlib.Core.List.{List, [], ◌∷◌, ◌++◌, append_assoc}
use lib.ListN.{length, get_or, take, drop}
use lib.Seq.{take_at, drop-append-add}
use Rattle.terms.specs.Bits.{Bytes, All, before, same_bytes, filter}
use Rattle.terms.specs.Fields.{le, num, field, slice, zero_bytes, flat}
use Rattle.terms.specs.Form.{GrantForm}
use Rattle.terms.specs.Records.{Grant, grant}
use Rattle.terms.proofs.Lists.{all_append, all_map, all_at}
use Rattle.terms.proofs.Fields.{cuts, cuts_flat, num_le, length_le, length_zero_bytes}
use Rattle.terms.proofs.Members.{In, filter_in, all_in}
use Rattle.terms.proofs.Tests.{bytes_same}
use Rattle.meaning.specs.Reading.{Verdict, present, absent, answer_of}
use Rattle.changed.specs.Changes.{Change, added, removed, another, change_key, between, Item, inserts, deletes, items_of, items, item_as, item_bytes, list_bytes}
use Rattle.changed.specs.Claims.{WhatChanged, KeyOrder}
use Rattle.changed.proofs.Ends.{Long32, item_long}
use Rattle.meaning.specs.Sound.{Kept}
use Rattle.histories.proofs.Theorems.{sound_tree_of_grants}
use Rattle.nodehash.specs.Node.{leaf_hash, inner_hash}
use Rattle.layout.specs.Stores.{store_of}
use Rattle.contracts.specs.Contracts.{Changes}
use Rattle.contracts.proofs.Granted.{Among, answered_among}
use Rattle.demands.specs.Claims.{grants_of_version, ListsChanges}
use Rattle.demands.proofs.Changed.{accepted_comparison_lists_changes}

-- kind and grant of a record
abbrev kind : Item → ℕ
kind (inserts g) = 1
kind (deletes g) = 2

abbrev of : Item → Grant
of (inserts g) = g
of (deletes g) = g

module _ (a b : List Grant) where
  -- a delete carries what the first grants say of its key, an insert what the second do
  abbrev Carries : Item → Type 0
  Carries (inserts g) = answer_of g.key b ≡ present g.value
  Carries (deletes g) = answer_of g.key a ≡ present g.value

  of_change : (k : Bytes) (v w : Verdict) → answer_of k a ≡ v → answer_of k b ≡ w → (c : Change) → In c (between k v w) → All Carries (items_of c)
  of_change k absent absent e f c h = absurd h
  of_change k absent (present y) e f c (inl r) = subst (λ d. All Carries (items_of d)) r (f, tt)
  of_change k (present x) absent e f c (inl r) = subst (λ d. All Carries (items_of d)) r (e, tt)
  of_change k (present x) absent e f c (inr z) = absurd z
  of_change k absent (present y) e f c (inr z) = absurd z
  of_change k (present x) (present y) e f c h = go (same_bytes x y) h
    where
      go : (t : Bool) → In c (cond t [] (another k x y ∷ [])) → All Carries (items_of c)
      go false (inl r) = subst (λ d. All Carries (items_of d)) r (e, (f, tt))
      go false (inr z) = absurd z
      go true z = absurd z

  of_changes : (cs : List Change) → All (λ c. All Carries (items_of c)) cs → All Carries (items cs)
  of_changes [] h = tt
  of_changes (c ∷ cs) h = all_append Carries (items_of c) (items cs) h.0 (of_changes cs h.1)

  pub all_carry : (cs : List Change) → WhatChanged a b cs → All Carries (items cs)
  all_carry cs w = of_changes cs (all_in (λ c. All Carries (items_of c)) cs (λ c h.
      of_change (change_key c) (answer_of (change_key c) a) (answer_of (change_key c) b) refl refl c
      (subst (In c) (w.exact (change_key c)) (filter_in c (λ d. same_bytes (change_key c) (change_key d)) cs h (bytes_same (change_key c))))))

-- the next record's key is greater, or it is the same and a delete is followed by an insert
abbrev Next : Item → Item → Type 0
Next x y = (before (of x).key (of y).key ≡ true) ⊎ (((of x).key ≡ (of y).key) × (kind x ≡ 2) × (kind y ≡ 1))

abbrev InTurn : List Item → Type 0
InTurn [] = Unit {0}
InTurn (x ∷ []) = Unit {0}
InTurn (x ∷ y ∷ xs) = Next x y × InTurn (y ∷ xs)

then_turn : (c d : Change) (xs : List Item) → before (change_key c) (change_key d) ≡ true → InTurn (items_of d ++ xs) → InTurn (items_of c ++ (items_of d ++ xs))
then_turn (added g) (added h) xs e k = (inl e, k)
then_turn (added g) (removed h) xs e k = (inl e, k)
then_turn (added g) (another j x y) xs e k = (inl e, k)
then_turn (removed g) (added h) xs e k = (inl e, k)
then_turn (removed g) (removed h) xs e k = (inl e, k)
then_turn (removed g) (another j x y) xs e k = (inl e, k)
then_turn (another i u v) (added h) xs e k = (inr (refl, refl, refl), (inl e, k))
then_turn (another i u v) (removed h) xs e k = (inr (refl, refl, refl), (inl e, k))
then_turn (another i u v) (another j x y) xs e k = (inr (refl, refl, refl), (inl e, k))

last_turn : (c : Change) → InTurn (items_of c ++ [])
last_turn (added g) = tt
last_turn (removed g) = tt
last_turn (another k x y) = (inr (refl, refl, refl), tt)

in_turn_lem : (cs : List Change) → KeyOrder change_key cs → InTurn (items cs)
in_turn_lem [] h = tt
in_turn_lem (c ∷ []) h = last_turn c
in_turn_lem (c ∷ d ∷ cs) h = then_turn c d (items cs) h.0.0 (in_turn_lem (d ∷ cs) h.1)

turn_at : (xs : List Item) (d : Item) (i : ℕ) → suc i < length xs → InTurn xs → Next (get_or xs i d) (get_or xs (suc i) d)
turn_at [] d i l h = absurd (omega arith)
turn_at (x ∷ []) d i l h = absurd (omega arith)
turn_at (x ∷ y ∷ xs) d zero l h = h.0
turn_at (x ∷ y ∷ xs) d (suc i) l h = turn_at (y ∷ xs) d i (omega arith) h.1

-- record i of the list's bytes
piece : (xs : List Item) (rest : Bytes) (d : Item) → All (λ x. length (item_bytes x) ≡ 72) xs → (i : ℕ) → i < length xs →
    slice (72 * i) 72 (list_bytes xs ++ rest) ≡ item_bytes (get_or xs i d)
unfolding slice
piece [] rest d h i l = absurd (omega arith)
piece (x ∷ xs) rest d h zero l =
    ap (take 72) (append_assoc (item_bytes x) (list_bytes xs) rest) ∙ take_at (item_bytes x) (list_bytes xs ++ rest) 72 h.0
piece (x ∷ xs) rest d h (suc i) l =
    let far : 72 * suc i ≡ length (item_bytes x) + 72 * i = omega (arith, h.0) in
    ap (λ w. take 72 (drop w ((item_bytes x ++ list_bytes xs) ++ rest))) far
    ∙ ap (λ y. take 72 (drop (length (item_bytes x) + 72 * i) y)) (append_assoc (item_bytes x) (list_bytes xs) rest)
    ∙ ap (take 72) (drop-append-add (item_bytes x) (list_bytes xs ++ rest) (72 * i))
    ∙ piece xs rest d h.1 i (omega arith)

-- what a record's bytes say
abbrev sizes : List ℕ
sizes = 4 ∷ 2 ∷ 2 ∷ 32 ∷ 32 ∷ []

abbrev fields : Item → List Bytes
fields x = le 4 72 ∷ le 2 (kind x) ∷ zero_bytes 2 ∷ (of x).key ∷ (of x).value ∷ []

bytes_are : (x : Item) → item_bytes x ≡ flat (fields x)
unfolding item_as
bytes_are (inserts g) = refl
bytes_are (deletes g) = refl

kind_small : (x : Item) → kind x < 65536
kind_small (inserts g) = omega arith
kind_small (deletes g) = omega arith

item_72 : (x : Item) → Long32 (of x) → length (item_bytes x) ≡ 72
item_72 (inserts g) h = item_long 1 g h
item_72 (deletes g) h = item_long 2 g h

module _ (x : Item) (h : Long32 (of x)) where
  cut : (n : ℕ) → get_or (cuts sizes 0 (item_bytes x)) n [] ≡ get_or (fields x) n []
  cut n =
      ap (λ y. get_or (cuts sizes 0 y) n []) (bytes_are x)
      ∙ ap (λ l. get_or l n []) (cuts_flat sizes (fields x) (length_le 4 72, (length_le 2 (kind x), (length_zero_bytes 2, (h.0, (h.1, tt))))))

  says_72 : field 0 4 (item_bytes x) ≡ 72
  unfolding field
  says_72 = ap num (cut 0) ∙ num_le 4 72 (omega arith)

  says_kind : field 4 2 (item_bytes x) ≡ kind x
  unfolding field
  says_kind = ap num (cut 1) ∙ num_le 2 (kind x) (kind_small x)

  says_key : slice 8 32 (item_bytes x) ≡ (of x).key
  says_key = cut 3

  says_value : slice 40 32 (item_bytes x) ≡ (of x).value
  says_value = cut 4

-- a grant that is answered is one of the grants, so its key and value have 32 bytes
among_form : (g : Grant) (gs : List Grant) → Among g gs → All GrantForm gs → GrantForm g
among_form g [] x'' w = elim x'' [ ]
among_form g (y ∷ ys) (inl r) w = subst GrantForm r w.0
among_form g (y ∷ ys) (inr m) w = among_form g ys m w.1

answered_long : (g : Grant) (gs : List Grant) → All GrantForm gs → answer_of g.key gs ≡ present g.value → Long32 g
answered_long g gs h e = let w = among_form (grant g.key g.value) gs (answered_among g.key g.value gs e) h in (w.0.0, w.1.0)

carried_long : (a b : List Grant) → All GrantForm a → All GrantForm b → (x : Item) → Carries a b x → Long32 (of x)
carried_long a b h k (inserts g) e = answered_long g b k e
carried_long a b h k (deletes g) e = answered_long g a h e

-- The records of an accepted comparison, as its bytes: t is left of the room, and g tells how many they are.
module _ {first second limit : ℕ} {s room f t g : Bytes} (w : Changes first second limit s room f 0 t g) where
  lists : ListsChanges first second limit s room t g
  lists = accepted_comparison_lists_changes first second limit w

  abbrev a : List Grant
  a = grants_of_version s first

  abbrev b : List Grant
  b = grants_of_version s second

  abbrev xs : List Item
  xs = items lists.changes

  carry : All (Carries a b) xs
  carry = all_carry a b lists.changes lists.what

  forms : (v : ℕ) → Kept (store_of s) v → All GrantForm (grants_of_version s v)
  forms v k = (sound_tree_of_grants leaf_hash inner_hash (store_of s) lists.sound.sound v k).2

  abbrev dummy : Item
  dummy = deletes (grant [] [])

  long : All (λ x. Long32 (of x)) xs
  long = all_map (Carries a b) (λ x. Long32 (of x)) xs (carried_long a b (forms first lists.kept.0) (forms second lists.kept.1)) carry

  many : num g ≡ length xs
  many = ap num lists.told ∙ num_le 4 (length xs) (omega (arith, lists.short))

  record_is : (i : ℕ) → i < num g → slice (72 * i) 72 t ≡ item_bytes (get_or xs i dummy)
  record_is i l =
      ap (slice (72 * i) 72) lists.room_holds
      ∙ piece xs (drop (length (list_bytes xs)) room) dummy (all_map (λ x. Long32 (of x)) (λ x. length (item_bytes x) ≡ 72) xs item_72 long) i (omega (arith, many))

  long_at : (i : ℕ) → i < num g → Long32 (of (get_or xs i dummy))
  long_at i l = all_at (λ x. Long32 (of x)) xs dummy i long (omega (arith, many))

  -- Each has length 72; a delete carries the value that the first version has for its key, an insert the one that the second has.
  pub listed_record_says : (i : ℕ) → i < num g → (field 0 4 (slice (72 * i) 72 t) ≡ 72) × (
      ((field 4 2 (slice (72 * i) 72 t) ≡ 2) × (answer_of (slice 8 32 (slice (72 * i) 72 t)) (grants_of_version s first) ≡ present (slice 40 32 (slice (72 * i) 72 t))))
      ⊎ ((field 4 2 (slice (72 * i) 72 t) ≡ 1) × (answer_of (slice 8 32 (slice (72 * i) 72 t)) (grants_of_version s second) ≡ present (slice 40 32 (slice (72 * i) 72 t)))))
  listed_record_says i l = subst (λ x. (field 0 4 x ≡ 72) × (
      ((field 4 2 x ≡ 2) × (answer_of (slice 8 32 x) a ≡ present (slice 40 32 x))) ⊎ ((field 4 2 x ≡ 1) × (answer_of (slice 8 32 x) b ≡ present (slice 40 32 x)))))
      (sym (record_is i l)) (go (get_or xs i dummy) (long_at i l) (all_at (Carries a b) xs dummy i carry (omega (arith, many))))
    where
      go : (x : Item) → Long32 (of x) → Carries a b x → (field 0 4 (item_bytes x) ≡ 72) × (
          ((field 4 2 (item_bytes x) ≡ 2) × (answer_of (slice 8 32 (item_bytes x)) a ≡ present (slice 40 32 (item_bytes x))))
          ⊎ ((field 4 2 (item_bytes x) ≡ 1) × (answer_of (slice 8 32 (item_bytes x)) b ≡ present (slice 40 32 (item_bytes x)))))
      go (inserts y) h e =
          (says_72 (inserts y) h, inr (says_kind (inserts y) h, ap (λ k. answer_of k b) (says_key (inserts y) h) ∙ e ∙ ap present (sym (says_value (inserts y) h))))
      go (deletes y) h e =
          (says_72 (deletes y) h, inl (says_kind (deletes y) h, ap (λ k. answer_of k a) (says_key (deletes y) h) ∙ e ∙ ap present (sym (says_value (deletes y) h))))

  -- They are in key order; only where a change is a delete and then an insert, two have the same key.
  pub listed_in_key_order : (i : ℕ) → suc i < num g →
      (before (slice 8 32 (slice (72 * i) 72 t)) (slice 8 32 (slice (72 * suc i) 72 t)) ≡ true)
      ⊎ ((slice 8 32 (slice (72 * i) 72 t) ≡ slice 8 32 (slice (72 * suc i) 72 t)) × (field 4 2 (slice (72 * i) 72 t) ≡ 2) × (field 4 2 (slice (72 * suc i) 72 t) ≡ 1))
  listed_in_key_order i l =
      let x = get_or xs i dummy in
      let y = get_or xs (suc i) dummy in
      let here = record_is i (omega arith) in
      let there = record_is (suc i) l in
      let k = ap (slice 8 32) here ∙ says_key x (long_at i (omega arith)) in
      let j = ap (slice 8 32) there ∙ says_key y (long_at (suc i) l) in
      ⊎_elim (λ e. inl (ap₂ before k j ∙ e))
      (λ e. inr (k ∙ e.0 ∙ sym j, ap (field 4 2) here ∙ says_kind x (long_at i (omega arith)) ∙ e.1, ap (field 4 2) there ∙ says_kind y (long_at (suc i) l) ∙ e.2))
      (turn_at xs dummy i (omega (arith, many)) (in_turn_lem lists.changes lists.what.ordered))
