-- A tree that is read in a store, or stands there, has at most as many leaves as the store has slots: the leaves below a place are records at
-- that place or below it, and no record is on both sides. So a count has four bytes. Assumes nothing.
use Prim.Native.Nat.{ℕ, zero, suc, ◌+◌, ◌≤◌}
use native.Mathlib.Omega.{arith}
use mathlib.Core.Path.{◌≡◌, refl, sym, ◌∙◌}
use mathlib.Core.Bool.{Bool, true, false, cond, false≢true}
use mathlib.Core.List.{List, [], ◌∷◌}
use mathlib.Core.Option.{Option, none, some, none-ne-some}
use lib.ListN.{length}
use lib.Dec.{eqb}
use Rattle.terms.specs.Bits.{Bytes, Side, left, right, Place, longer, digit, prefix}
use Rattle.terms.specs.Records.{Body, leaf_body, inner_body, Record, Slot, free, used, spoiled, Store}
use Rattle.terms.proofs.Places.{prefix_longer, prefix_self}
use Rattle.meaning.specs.Tree.{VTree, vnone, vleaf, vinner, leaves}
use Rattle.meaning.specs.Store.{is_node, find, tree_below, tree_found, tree_from}
use Rattle.meaning.specs.Sound.{Found, Stands}
use Rattle.meaning.proofs.Finding.{is_node_eq, Within, there, go_kid}

-- how many slots hold a record at a place or below it
abbrev below_in_lem : Place → Slot → ℕ
below_in_lem p free = 0
below_in_lem p (used r) = digit (prefix p r.place)
below_in_lem p (spoiled x) = 0

abbrev slots_below : Place → List Slot → ℕ
slots_below p [] = 0
slots_below p (x ∷ s) = below_in_lem p x + slots_below p s

digit_one : (b : Bool) → digit b ≤ 1
digit_one true = omega arith
digit_one false = omega arith

below_one : (p : Place) (x : Slot) → below_in_lem p x ≤ 1
below_one p free = omega arith
below_one p (used r) = digit_one (prefix p r.place)
below_one p (spoiled x) = omega arith

few_below : (p : Place) (s : List Slot) → slots_below p s ≤ length s
few_below p [] = omega arith
few_below p (x ∷ s) = omega (arith, below_one p x, few_below p s)

-- no record is on both sides
sides_within : (p q : Place) → digit (prefix (longer left p) q) + digit (prefix (longer right p) q) ≤ digit (prefix p q)
sides_within p q = go _ _ refl refl
  where
    above : prefix p q ≡ true → 1 ≤ digit (prefix p q)
    above e = rw e (omega arith)

    go : (a b : Bool) → prefix (longer left p) q ≡ a → prefix (longer right p) q ≡ b → digit a + digit b ≤ digit (prefix p q)
    go true true e f = absurd (false≢true (sym (prefix_longer left p q e).1 ∙ (prefix_longer right p q f).1))
    go true false e f = above (prefix_longer left p q e).0
    go false true e f = above (prefix_longer right p q f).0
    go false false e f = omega arith

slot_sides : (p : Place) (x : Slot) → below_in_lem (longer left p) x + below_in_lem (longer right p) x ≤ below_in_lem p x
slot_sides p free = omega arith
slot_sides p (used r) = sides_within p r.place
slot_sides p (spoiled x) = omega arith

below_sides : (p : Place) (s : List Slot) → slots_below (longer left p) s + slots_below (longer right p) s ≤ slots_below p s
below_sides p [] = omega arith
below_sides p (x ∷ s) = omega (arith, slot_sides p x, below_sides p s)

-- what is found at a place is there
found_below : (v : ℕ) (p : Place) (s : List Slot) (r : Record) → find v p s ≡ some r → 1 ≤ slots_below p s
found_below v p [] r e = absurd (none-ne-some r e)
found_below v p (free ∷ s) r e = omega (arith, found_below v p s r e)
found_below v p (used q ∷ s) r e = go (is_node v p q) refl e (λ f. found_below v p s r f)
  where
    go : (b : Bool) → is_node v p q ≡ b → cond b (some q) (find v p s) ≡ some r → (find v p s ≡ some r → 1 ≤ slots_below p s) →
        1 ≤ slots_below p (used q ∷ s)
    go true k f ih = let here : digit (prefix p q.place) ≡ 1 = rw ((is_node_eq v p q k).1, prefix_self p) in omega arith
    go false k f ih = omega (arith, ih f)
found_below v p (spoiled x ∷ s) r e = omega (arith, found_below v p s r e)

-- what is read at a place
body_below : (p : Place) (s : List Slot) (v : ℕ) (b : Body) (below : Side → ℕ → VTree) → 1 ≤ slots_below p s →
    ((c : Side) (w : ℕ) → leaves (below c w) ≤ slots_below (longer c p) s) → leaves (tree_below v b below) ≤ slots_below p s
body_below p s v (leaf_body k x) below h f = h
body_below p s v (inner_body l r) below h f = omega (arith, f left l.version, f right r.version, below_sides p s)

found_leaves : (s : List Slot) (v : ℕ) (p : Place) (o : Option Record) (below : Side → ℕ → VTree) → find v p s ≡ o →
    ((c : Side) (w : ℕ) → leaves (below c w) ≤ slots_below (longer c p) s) → leaves (cond (eqb v 0) vnone (tree_found o below)) ≤ slots_below p s
found_leaves s v p o below e f = elim (eqb v 0) as (λ b. leaves (cond b vnone (tree_found o below)) ≤ slots_below p s) [
  | true ↦ omega arith
  | false ↦ go o e
]
  where
    go : (o : Option Record) → find v p s ≡ o → leaves (tree_found o below) ≤ slots_below p s
    go none e = omega arith
    go (some r) e = body_below p s r.version r.body below (found_below v p s r e) f

read_below : (n : ℕ) (s : List Slot) (v : ℕ) (p : Place) → leaves (tree_from n s v p) ≤ slots_below p s
read_below zero s v p = found_leaves s v p _ _ refl (λ c w. omega arith)
read_below (suc n) s v p = found_leaves s v p _ _ refl (λ c w. read_below n s w (longer c p))

-- as many leaves as slots at most
pub few_read : (n : ℕ) (s : List Slot) (v : ℕ) (p : Place) → leaves (tree_from n s v p) ≤ length s
few_read n s v p = omega (arith, read_below n s v p, few_below p s)

module _ (leaf_hash inner_hash : Bytes → Bytes → Bytes) (st : Store) where
  leaves_below : (p : Place) (t : VTree) → Stands leaf_hash inner_hash st p t → leaves t ≤ slots_below p st.slots
  unfolding Found
  leaves_below p vnone s = omega arith
  leaves_below p (vleaf v g) s = found_below v p st.slots s.0.0 s.0.1
  leaves_below p (vinner v l r) s =
      omega (arith, leaves_below (longer left p) l s.2, leaves_below (longer right p) r s.3, below_sides p st.slots)

  -- as many leaves as slots at most
  pub few_leaves : (p : Place) (t : VTree) → Stands leaf_hash inner_hash st p t → leaves t ≤ length st.slots
  few_leaves p t s = omega (arith, leaves_below p t s, few_below p st.slots)

-- a subtree has no more leaves
pub within_leaves : {u : VTree} {q : Place} {t : VTree} {p : Place} → Within u q t p → leaves u ≤ leaves t
within_leaves there = omega arith
within_leaves (go_kid false w) = omega (arith, within_leaves w)
within_leaves (go_kid true w) = omega (arith, within_leaves w)
