-- What changed between at most one grant and at most one other, by their keys and values; so a visit lists at most two records.
-- Assumes nothing.
use Prim.Native.Nat.{ℕ, zero, suc, ◌+◌, ◌*◌, ◌≤◌}
use native.Mathlib.Omega.{arith}
use mathlib.Core.Path.{◌≡◌, refl, ap, ap₂, sym, ◌∙◌, subst}
use mathlib.Core.Bool.{Bool, true, false, cond}
use mathlib.Core.List.{List, [], ◌∷◌, ◌++◌, append-nil, append_assoc}
use lib.ListN.{length, length-append}
use Rattle.terms.specs.Bits.{All, left, right, before, same_bytes}
use Rattle.terms.specs.Records.{Grant, grant}
use Rattle.terms.specs.Fields.{le, zero_bytes}
use Rattle.terms.proofs.Fields.{length_le, length_zero_bytes, length_flat}
use Rattle.terms.proofs.Tests.{same_bytes_lem, bytes_same, is_false}
use Rattle.terms.proofs.Order.{before_irrefl, before_asym, before_total}
use Rattle.meaning.specs.Tree.{smaller, greater, VTree, vnone, vleaf, vinner, kid}
use Rattle.changed.specs.Changes.{Change, added, removed, another, changed, Item, inserts, deletes, items_of, items, item_size, item_as, item_bytes, list_bytes}
use Rattle.changed.specs.Visits.{no_deeper}
use Rattle.changed.specs.Walk.{visits_at, under, held, listed}
use Rattle.changed.proofs.Parts.{before_other, after_other}
use Rattle.changed.proofs.Walk.{visits_carried}

pub removed_first : (g h : Grant) → before g.key h.key ≡ true → changed (g ∷ []) (h ∷ []) ≡ removed g ∷ added h ∷ []
unfolding smaller greater
removed_first g h e = rw (e, before_asym g.key h.key e, before_other g.key h.key e)

pub added_first : (g h : Grant) → before h.key g.key ≡ true → changed (g ∷ []) (h ∷ []) ≡ added h ∷ removed g ∷ []
unfolding smaller greater
added_first g h e = rw (e, before_asym h.key g.key e, after_other g.key h.key e)

-- the same key
pub one_key : (g h : Grant) → same_bytes g.key h.key ≡ true →
    changed (g ∷ []) (h ∷ []) ≡ cond (same_bytes g.value h.value) [] (another g.key g.value h.value ∷ [])
unfolding smaller greater
one_key g h e =
    let same = same_bytes_lem g.key h.key e in
    let no : before h.key g.key ≡ false = is_false _ (λ l. before_irrefl g.key (subst (λ k. before k g.key ≡ true) (sym same) l)) in
    let on : before g.key h.key ≡ false = is_false _ (λ l. before_irrefl g.key (subst (λ k. before g.key k ≡ true) (sym same) l)) in
    rw (no, on, e) (append-nil _)

-- at most two records
two_at_most : (g h : Grant) → length (items (changed (g ∷ []) (h ∷ []))) ≤ 2
two_at_most g h = go (before g.key h.key) (before h.key g.key) refl refl
  where
    same : (b : Bool) → length (items (cond b [] (another g.key g.value h.value ∷ []))) ≤ 2
    same true = omega arith
    same false = omega arith

    go : (a b : Bool) → before g.key h.key ≡ a → before h.key g.key ≡ b → length (items (changed (g ∷ []) (h ∷ []))) ≤ 2
    go true b e f = rw (removed_first g h e) (omega arith)
    go false true e f = rw (added_first g h f) (omega arith)
    go false false e f =
        rw (one_key g h (ap (same_bytes g.key) (sym (before_total g.key h.key e f)) ∙ bytes_same g.key))
        (same (same_bytes g.value h.value))

pub only_removed : (g : Grant) → changed (g ∷ []) [] ≡ removed g ∷ []
unfolding smaller greater
only_removed g = refl

pub ends_few : (t u : VTree) → length (items (changed (held t) (held u))) ≤ 2
ends_few vnone vnone = omega arith
ends_few vnone (vleaf w h) = omega arith
ends_few vnone (vinner w m s) = omega arith
ends_few (vleaf v g) vnone = rw (only_removed g) (omega arith)
ends_few (vleaf v g) (vleaf w h) = two_at_most g h
ends_few (vleaf v g) (vinner w m s) = rw (only_removed g) (omega arith)
ends_few (vinner v l r) vnone = omega arith
ends_few (vinner v l r) (vleaf w h) = omega arith
ends_few (vinner v l r) (vinner w m s) = omega arith

-- each record has 72 bytes, if keys and values have 32
abbrev pub Long32 : Grant → Type 0
Long32 g = (length g.key ≡ 32) × (length g.value ≡ 32)

pub item_long : (kind : ℕ) (g : Grant) → Long32 g → length (item_as kind g) ≡ item_size
unfolding item_as
item_long kind g h =
    length_flat (4 ∷ 2 ∷ 2 ∷ 32 ∷ 32 ∷ []) (le 4 item_size ∷ le 2 kind ∷ zero_bytes 2 ∷ g.key ∷ g.value ∷ [])
    (length_le 4 item_size, (length_le 2 kind, (length_zero_bytes 2, (h.0, (h.1, tt)))))

abbrev LongList : List Item → Type 0
LongList xs = length (list_bytes xs) ≡ item_size * length xs

one_long_lem : (x : Item) → length (item_bytes x) ≡ item_size → LongList (x ∷ [])
one_long_lem x e = omega (arith, length-append (item_bytes x) [])

pair_long : (x y : Item) → length (item_bytes x) ≡ item_size → length (item_bytes y) ≡ item_size → LongList (x ∷ y ∷ [])
pair_long x y e f = omega (arith, length-append (item_bytes x) (item_bytes y ++ []), length-append (item_bytes y) [])

two_long : (g h : Grant) → Long32 g → Long32 h → LongList (items (changed (g ∷ []) (h ∷ [])))
two_long g h a b = go (before g.key h.key) (before h.key g.key) refl refl
  where
    same : (c : Bool) → LongList (items (cond c [] (another g.key g.value h.value ∷ [])))
    same true = omega arith
    same false =
        pair_long (deletes (grant g.key g.value)) (inserts (grant g.key h.value)) (item_long 2 (grant g.key g.value) a)
        (item_long 1 (grant g.key h.value) (a.0, b.1))

    go : (x y : Bool) → before g.key h.key ≡ x → before h.key g.key ≡ y → LongList (items (changed (g ∷ []) (h ∷ [])))
    go true y e f = rw (removed_first g h e) (pair_long (deletes g) (inserts h) (item_long 2 g a) (item_long 1 h b))
    go false true e f = rw (added_first g h f) (pair_long (inserts h) (deletes g) (item_long 1 h b) (item_long 2 g a))
    go false false e f =
        rw (one_key g h (ap (same_bytes g.key) (sym (before_total g.key h.key e f)) ∙ bytes_same g.key))
        (same (same_bytes g.value h.value))

pub ends_long : (t u : VTree) → All Long32 (held t) → All Long32 (held u) → length (list_bytes (items (changed (held t) (held u)))) ≡ item_size * length (items (changed (held t) (held u)))
ends_long vnone vnone a b = omega arith
ends_long vnone (vleaf w h) a b = one_long_lem (inserts h) (item_long 1 h b.0)
ends_long vnone (vinner w m s) a b = omega arith
ends_long (vleaf v g) vnone a b = rw (only_removed g) (one_long_lem (deletes g) (item_long 2 g a.0))
ends_long (vleaf v g) (vleaf w h) a b = two_long g h a.0 b.0
ends_long (vleaf v g) (vinner w m s) a b = rw (only_removed g) (one_long_lem (deletes g) (item_long 2 g a.0))
ends_long (vinner v l r) vnone a b = omega arith
ends_long (vinner v l r) (vleaf w h) a b = one_long_lem (inserts h) (item_long 1 h b.0)
ends_long (vinner v l r) (vinner w m s) a b = omega arith

-- the records of two lists, one after the other
pub items_append : (xs ys : List Change) → items (xs ++ ys) ≡ items xs ++ items ys
items_append [] ys = refl
items_append (c ∷ xs) ys = ap (items_of c ++◌) (items_append xs ys) ∙ sym (append_assoc (items_of c) (items xs) (items ys))

pub listed_few : (n i : ℕ) (t u : VTree) → length (items (listed n i t u)) ≤ 2 * visits_at n t u
listed_few zero i t u = ends_few t u
listed_few (suc n) i t u =
    go (no_deeper t u)
    (subst (λ x. length (items (listed n (suc i) (under i left t) (under i left u))) ≤ 2 * x) (visits_carried n i left t u)
    (listed_few n (suc i) (under i left t) (under i left u)))
    (subst (λ x. length (items (listed n (suc i) (under i right t) (under i right u))) ≤ 2 * x) (visits_carried n i right t u)
    (listed_few n (suc i) (under i right t) (under i right u)))
  where
    go : (b : Bool) →
        length (items (listed n (suc i) (under i left t) (under i left u))) ≤ 2 * visits_at n (kid left t) (kid left u) →
        length (items (listed n (suc i) (under i right t) (under i right u))) ≤ 2 * visits_at n (kid right t) (kid right u) →
        length (items (cond b (changed (held t) (held u))
        (listed n (suc i) (under i left t) (under i left u) ++ listed n (suc i) (under i right t) (under i right u))))
        ≤ 2 * suc (cond b 0 (visits_at n (kid left t) (kid left u) + visits_at n (kid right t) (kid right u)))
    go true a b = omega (arith, ends_few t u)
    go false a b =
        let xs = listed n (suc i) (under i left t) (under i left u) in
        let ys = listed n (suc i) (under i right t) (under i right u) in
        let e = ap length (items_append xs ys) ∙ length-append (items xs) (items ys) in
        omega arith
