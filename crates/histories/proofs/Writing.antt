-- What retiring, placing and pruning do to the slots: which records stand there afterwards, what is found, and how many slots are free.
-- Each goes through the slots one by one, and so does each proof. Assumes nothing.
use Prim.Native.Nat.{ℕ, zero, suc, ◌+◌, ◌<◌, ◌≤◌}
use native.Mathlib.Omega.{arith}
use mathlib.Core.Path.{◌≡◌, refl, ap, ap₂, sym, ◌∙◌, subst}
use mathlib.Core.Logic.{◌⊎◌, inl, inr}
use mathlib.Core.Bool.{Bool, true, false, cond, not, ◌&&◌, true≢false}
use mathlib.Core.List.{List, [], ◌∷◌, map}
use mathlib.Core.Option.{Option, none, some, none-ne-some, some-ne-none}
use lib.ListN.{length, get_or, length-map}
use Rattle.terms.specs.Bits.{Bytes, Place, All}
use Rattle.terms.specs.Records.{Body, Tally, Record, Slot, free, used, spoiled}
use Rattle.terms.proofs.Lists.{all_map}
use Rattle.terms.proofs.Members.{In}
use Rattle.meaning.specs.Store.{find, is_node, free_slots, placed, marked, on_record, has_node, retire_in, retire, retired_by, prune_record, pruned}
use Rattle.meaning.proofs.Finding.{free_used, spoiled_used, used_eq}
use Rattle.histories.proofs.Slots.{Has, free_spoiled, none_find, not_node, Unique}

-- records changed one by one

pub has_changed : (f : Record → Slot) (r : Record) (s : List Slot) → Has r (map (on_record f) s) → (q : Record) × Has q s × (f q ≡ used r)
has_changed f r [] h = absurd h
has_changed f r (free ∷ s) (inl e) = free_used r e
has_changed f r (free ∷ s) (inr h) = let k = has_changed f r s h in (k.0, inr k.1, k.2)
has_changed f r (used q ∷ s) (inl e) = (q, inl refl, e)
has_changed f r (used q ∷ s) (inr h) = let k = has_changed f r s h in (k.0, inr k.1, k.2)
has_changed f r (spoiled x ∷ s) (inl e) = spoiled_used x r e
has_changed f r (spoiled x ∷ s) (inr h) = let k = has_changed f r s h in (k.0, inr k.1, k.2)

spoiled_changed : (f : Record → Slot) (x : Bytes) → ((q : Record) → f q ≡ spoiled x → ⊥) → (s : List Slot) →
    In (spoiled x) (map (on_record f) s) → In (spoiled x) s
spoiled_changed f x k [] h = absurd h
spoiled_changed f x k (free ∷ s) (inl e) = inl e
spoiled_changed f x k (free ∷ s) (inr h) = inr (spoiled_changed f x k s h)
spoiled_changed f x k (used q ∷ s) (inl e) = absurd (k q e)
spoiled_changed f x k (used q ∷ s) (inr h) = inr (spoiled_changed f x k s h)
spoiled_changed f x k (spoiled y ∷ s) (inl e) = inl e
spoiled_changed f x k (spoiled y ∷ s) (inr h) = inr (spoiled_changed f x k s h)

-- retiring

-- what is found, but for when it was retired
abbrev pub contents : Option Record → Option (ℕ × Body × Tally)
contents none = none
contents (some r) = some (r.version, r.body, r.counts)

pub contents_none : (o : Option Record) → contents o ≡ none → o ≡ none
contents_none none e = refl
contents_none (some r) e = absurd (some-ne-none (r.version, r.body, r.counts) e)

-- a record of the old tree alone is marked, any other stays
abbrev pub turned : ℕ → List Record → List Record → Record → Record
turned n old now r = cond (has_node r old && not (has_node r now)) (marked n r) r

pub turned_node : (n : ℕ) (old now : List Record) (r : Record) →
    ((turned n old now r).version ≡ r.version) × ((turned n old now r).place ≡ r.place)
unfolding marked
turned_node n old now r =
    elim (has_node r old && not (has_node r now))
    as (λ b. ((cond b (marked n r) r).version ≡ r.version) × ((cond b (marked n r) r).place ≡ r.place))
    [ true ↦ (refl, refl) | false ↦ (refl, refl) ]

pub has_retire : (r : Record) (n : ℕ) (old now : List Record) (s : List Slot) → Has r (retire n old now s) →
    (q : Record) × Has q s × (turned n old now q ≡ r)
unfolding retire_in
has_retire r n old now s h = let k = has_changed (retire_in n old now) r s h in (k.0, k.1, used_eq _ _ k.2)

pub retire_at : (n : ℕ) (old now : List Record) (s : List Slot) (i : ℕ) (r : Record) → get_or s i free ≡ used r →
    get_or (retire n old now s) i free ≡ used (turned n old now r)
unfolding retire_in
retire_at n old now [] i r e = free_used r e
retire_at n old now (x ∷ s) zero r e = ap (on_record (retire_in n old now)) e
retire_at n old now (x ∷ s) (suc i) r e = retire_at n old now s i r e

pub spoiled_retire : (x : Bytes) (n : ℕ) (old now : List Record) (s : List Slot) → In (spoiled x) (retire n old now s) → In (spoiled x) s
unfolding retire_in
spoiled_retire x n old now s h = spoiled_changed (retire_in n old now) x (λ q e. spoiled_used x _ (sym e)) s h

pub contents_turned : (b : Bool) (n v : ℕ) (p : Place) (r : Record) (x y : Option Record) → contents x ≡ contents y →
    contents (cond (is_node v p (cond b (marked n r) r)) (some (cond b (marked n r) r)) x) ≡ contents (cond (is_node v p r) (some r) y)
unfolding is_node marked
contents_turned true n v p r x y e =
    elim (is_node v p r) as (λ k. contents (cond k (some (marked n r)) x) ≡ contents (cond k (some r) y)) [ true ↦ refl | false ↦ e ]
contents_turned false n v p r x y e =
    elim (is_node v p r) as (λ k. contents (cond k (some r) x) ≡ contents (cond k (some r) y)) [ true ↦ refl | false ↦ e ]

pub find_retire : (n v : ℕ) (p : Place) (old now : List Record) (s : List Slot) →
    contents (find v p (retire n old now s)) ≡ contents (find v p s)
unfolding retire_in
find_retire n v p old now [] = refl
find_retire n v p old now (free ∷ s) = find_retire n v p old now s
find_retire n v p old now (used r ∷ s) = contents_turned (has_node r old && not (has_node r now)) n v p r _ _ (find_retire n v p old now s)
find_retire n v p old now (spoiled x ∷ s) = find_retire n v p old now s

pub unique_retire : (n : ℕ) (old now : List Record) (s : List Slot) → Unique s → Unique (retire n old now s)
unfolding retire_in
unique_retire n old now [] h = tt
unique_retire n old now (free ∷ s) h = unique_retire n old now s h
unique_retire n old now (used r ∷ s) h =
    let t = turned_node n old now r in
    let e : find r.version r.place (retire n old now s) ≡ none =
    contents_none _ (find_retire n r.version r.place old now s ∙ ap contents h.0) in
    (ap₂ (λ v p. find v p (retire n old now s)) t.0 t.1 ∙ e, unique_retire n old now s h.1)
unique_retire n old now (spoiled x ∷ s) h = unique_retire n old now s h

pub free_retire : (n : ℕ) (old now : List Record) (s : List Slot) → free_slots (retire n old now s) ≡ free_slots s
unfolding retire_in
free_retire n old now [] = refl
free_retire n old now (free ∷ s) = ap suc (free_retire n old now s)
free_retire n old now (used r ∷ s) = free_retire n old now s
free_retire n old now (spoiled x ∷ s) = free_retire n old now s

-- placing

in_placed : (x : Slot) (rs : List Record) (s : List Slot) → In x (placed rs s) → In x s ⊎ ((r : Record) × In r rs × (x ≡ used r))
in_placed x rs [] h = absurd h
in_placed x [] (free ∷ s) h = inl h
in_placed x (r ∷ rs) (free ∷ s) (inl e) = inr (r, inl refl, sym e)
in_placed x (r ∷ rs) (free ∷ s) (inr h) = elim (in_placed x rs s h) [ inl k ↦ inl (inr k) | inr k ↦ inr (k.0, inr k.1, k.2) ]
in_placed x rs (used y ∷ s) (inl e) = inl (inl e)
in_placed x rs (used y ∷ s) (inr h) = elim (in_placed x rs s h) [ inl k ↦ inl (inr k) | inr k ↦ inr k ]
in_placed x rs (spoiled y ∷ s) (inl e) = inl (inl e)
in_placed x rs (spoiled y ∷ s) (inr h) = elim (in_placed x rs s h) [ inl k ↦ inl (inr k) | inr k ↦ inr k ]

pub has_placed : (r : Record) (rs : List Record) (s : List Slot) → Has r (placed rs s) → Has r s ⊎ In r rs
has_placed r rs s h = go (in_placed (used r) rs s h)
  where
    go : (In (used r) s ⊎ ((q : Record) × In q rs × (used r ≡ used q))) → Has r s ⊎ In r rs
    go (inl k) = inl k
    go (inr k) = inr (subst (λ y. In y rs) (sym (used_eq r k.0 k.2)) k.1)

pub spoiled_placed : (x : Bytes) (rs : List Record) (s : List Slot) → In (spoiled x) (placed rs s) → In (spoiled x) s
spoiled_placed x rs s h = go (in_placed (spoiled x) rs s h)
  where
    go : (In (spoiled x) s ⊎ ((q : Record) × In q rs × (spoiled x ≡ used q))) → In (spoiled x) s
    go (inl k) = k
    go (inr k) = spoiled_used x k.0 k.2

-- a record stays where it is
pub placed_at : (rs : List Record) (s : List Slot) (i : ℕ) (r : Record) → get_or s i free ≡ used r → get_or (placed rs s) i free ≡ used r
placed_at rs [] i r e = e
placed_at [] (free ∷ s) i r e = e
placed_at (q ∷ rs) (free ∷ s) zero r e = free_used r e
placed_at (q ∷ rs) (free ∷ s) (suc i) r e = placed_at rs s i r e
placed_at rs (used y ∷ s) zero r e = e
placed_at rs (used y ∷ s) (suc i) r e = placed_at rs s i r e
placed_at rs (spoiled y ∷ s) zero r e = e
placed_at rs (spoiled y ∷ s) (suc i) r e = placed_at rs s i r e

-- with room, all are placed, and as many slots fewer are free
pub placed_has : (r : Record) (rs : List Record) (s : List Slot) → In r rs → length rs ≤ free_slots s → Has r (placed rs s)
placed_has r [] [] h l = absurd h
placed_has r (q ∷ rs) [] h l = absurd (omega arith)
placed_has r [] (free ∷ s) h l = absurd h
placed_has r (q ∷ rs) (free ∷ s) (inl e) l = inl (ap used e)
placed_has r (q ∷ rs) (free ∷ s) (inr h) l = inr (placed_has r rs s h (omega arith))
placed_has r rs (used y ∷ s) h l = inr (placed_has r rs s h l)
placed_has r rs (spoiled y ∷ s) h l = inr (placed_has r rs s h l)

free_placed : (rs : List Record) (s : List Slot) → length rs ≤ free_slots s → free_slots (placed rs s) + length rs ≡ free_slots s
free_placed [] [] l = refl
free_placed (r ∷ rs) [] l = absurd (omega arith)
free_placed [] (free ∷ s) l = omega arith
free_placed (r ∷ rs) (free ∷ s) l = omega (arith, free_placed rs s (omega arith))
free_placed rs (used y ∷ s) l = free_placed rs s l
free_placed rs (spoiled y ∷ s) l = free_placed rs s l

length_placed : (rs : List Record) (s : List Slot) → length (placed rs s) ≡ length s
length_placed rs [] = refl
length_placed [] (free ∷ s) = refl
length_placed (r ∷ rs) (free ∷ s) = ap suc (length_placed rs s)
length_placed rs (used y ∷ s) = ap suc (length_placed rs s)
length_placed rs (spoiled y ∷ s) = ap suc (length_placed rs s)

-- placing after retiring
pub free_written : (rs : List Record) (n : ℕ) (old now : List Record) (s : List Slot) → length rs ≤ free_slots s →
    free_slots s ≡ free_slots (placed rs (retire n old now s)) + length rs
free_written rs n old now s l =
    let e = free_retire n old now s in omega (arith, e, free_placed rs (retire n old now s) (omega (arith, e)))

pub length_written : (rs : List Record) (n : ℕ) (old now : List Record) (s : List Slot) →
    length (placed rs (retire n old now s)) ≡ length s
length_written rs n old now s = length_placed rs (retire n old now s) ∙ length-map s (on_record (retire_in n old now))

abbrev pub Not : ℕ → Place → Record → Type 0
Not v p r = is_node v p r ≡ false

-- what no new record is is found as before
pub find_placed : (v : ℕ) (p : Place) (rs : List Record) (s : List Slot) → All (Not v p) rs → find v p (placed rs s) ≡ find v p s
find_placed v p rs [] h = refl
find_placed v p [] (free ∷ s) h = refl
find_placed v p (r ∷ rs) (free ∷ s) h = rw h.0 (find_placed v p rs s h.1)
find_placed v p rs (used x ∷ s) h = ap (cond (is_node v p x) (some x)) (find_placed v p rs s h)
find_placed v p rs (spoiled x ∷ s) h = find_placed v p rs s h

abbrev pub New : ℕ → Record → Type 0
New new r = r.version ≡ new

abbrev pub Older : ℕ → List Slot → Type 0
Older new s = (q : Record) → Has q s → q.version < new

pub find_older : (new v : ℕ) (p : Place) (rs : List Record) (s : List Slot) → v < new → All (New new) rs →
    find v p (placed rs s) ≡ find v p s
find_older new v p rs s l h = find_placed v p rs s (all_map (New new) (Not v p) rs (λ r e. not_node v p r (λ a b. omega arith)) h)

-- no two of the new records share version and place
abbrev pub Distinct : List Record → Type 0
Distinct [] = Unit {0}
Distinct (r ∷ rs) = All (Not r.version r.place) rs × Distinct rs

none_older : (new : ℕ) (r : Record) (s : List Slot) → Older new s → New new r → find r.version r.place s ≡ none
none_older new r s b e = none_find r.version r.place s (λ q k n. go q (b q k) n)
  where
    go : (q : Record) → q.version < new → is_node r.version r.place q ≡ true → ⊥
    go q l n = true≢false (sym n ∙ not_node r.version r.place q (λ a c. omega arith))

pub unique_placed : (new : ℕ) (rs : List Record) (s : List Slot) → Unique s → Older new s → All (New new) rs → Distinct rs →
    Unique (placed rs s)
unique_placed new rs [] h b n d = tt
unique_placed new [] (free ∷ s) h b n d = h
unique_placed new (r ∷ rs) (free ∷ s) h b n d = (
  find_placed r.version r.place rs s d.0 ∙ none_older new r s (λ q k. b q (inr k)) n.0,
  unique_placed new rs s h (λ q k. b q (inr k)) n.1 d.1,
)
unique_placed new rs (used x ∷ s) h b n d =
    (find_older new x.version x.place rs s (b x (inl refl)) n ∙ h.0, unique_placed new rs s h.1 (λ q k. b q (inr k)) n d)
unique_placed new rs (spoiled x ∷ s) h b n d = unique_placed new rs s h (λ q k. b q (inr k)) n d

-- pruning

pub has_pruned : (r : Record) (n : ℕ) (s : List Slot) → Has r (pruned n s) → Has r s × (retired_by n r ≡ false)
unfolding prune_record
has_pruned r n s h = let k = has_changed (prune_record n) r s h in go k.0 k.1 (retired_by n k.0) refl k.2
  where
    go : (q : Record) → Has q s → (b : Bool) → retired_by n q ≡ b → cond b free (used q) ≡ used r → Has r s × (retired_by n r ≡ false)
    go q k true e f = free_used r f
    go q k false e f = let m = used_eq q r f in (subst (λ x. Has x s) m k, ap (retired_by n) (sym m) ∙ e)

pub spoiled_pruned : (x : Bytes) (n : ℕ) (s : List Slot) → In (spoiled x) (pruned n s) → In (spoiled x) s
unfolding prune_record
spoiled_pruned x n s h = spoiled_changed (prune_record n) x (λ q e. go q (retired_by n q) e) s h
  where
    go : (q : Record) (b : Bool) → cond b free (used q) ≡ spoiled x → ⊥
    go q true e = free_spoiled x e
    go q false e = spoiled_used x q (sym e)

-- what is not freed is found as before
pub find_pruned : (v : ℕ) (p : Place) (n : ℕ) (s : List Slot) → ((r : Record) → find v p s ≡ some r → retired_by n r ≡ false) →
    find v p (pruned n s) ≡ find v p s
unfolding prune_record
find_pruned v p n [] h = refl
find_pruned v p n (free ∷ s) h = find_pruned v p n s h
find_pruned v p n (used q ∷ s) h = go (λ k. find_pruned v p n s k) (is_node v p q) (retired_by n q) refl refl h
  where
    go : (((r : Record) → find v p s ≡ some r → retired_by n r ≡ false) → find v p (pruned n s) ≡ find v p s) →
        (b c : Bool) → is_node v p q ≡ b → retired_by n q ≡ c →
        ((r : Record) → cond b (some q) (find v p s) ≡ some r → retired_by n r ≡ false) →
        find v p (cond c free (used q) ∷ pruned n s) ≡ cond b (some q) (find v p s)
    go ih true true e f k = absurd (true≢false (sym f ∙ k q refl))
    go ih true false e f k = rw e
    go ih false true e f k = ih k
    go ih false false e f k = rw e (ih k)
find_pruned v p n (spoiled x ∷ s) h = find_pruned v p n s h

-- what was not found is not found
pub none_pruned : (v : ℕ) (p : Place) (n : ℕ) (s : List Slot) → find v p s ≡ none → find v p (pruned n s) ≡ none
none_pruned v p n s e = find_pruned v p n s (λ r f. absurd (none-ne-some r (sym e ∙ f))) ∙ e

pub unique_pruned : (n : ℕ) (s : List Slot) → Unique s → Unique (pruned n s)
unfolding prune_record
unique_pruned n [] h = tt
unique_pruned n (free ∷ s) h = unique_pruned n s h
unique_pruned n (used r ∷ s) h =
    elim (retired_by n r) as (λ b. Unique (cond b free (used r) ∷ pruned n s))
    [ true ↦ unique_pruned n s h.1 | false ↦ (none_pruned r.version r.place n s h.0, unique_pruned n s h.1) ]
unique_pruned n (spoiled x ∷ s) h = unique_pruned n s h

pub free_pruned : (n : ℕ) (s : List Slot) → free_slots s ≤ free_slots (pruned n s)
unfolding prune_record
free_pruned n [] = omega arith
free_pruned n (free ∷ s) = omega (arith, free_pruned n s)
free_pruned n (used r ∷ s) =
    elim (retired_by n r) as (λ b. free_slots s ≤ free_slots (cond b free (used r) ∷ pruned n s))
    [ true ↦ omega (arith, free_pruned n s) | false ↦ free_pruned n s ]
free_pruned n (spoiled x ∷ s) = free_pruned n s
