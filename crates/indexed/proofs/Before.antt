-- The order of places and of records is strict and tells any two apart. Assumes nothing.
use Prim.Native.Nat.{ℕ, ◌<◌}
use native.Mathlib.Omega.{arith}
use mathlib.Core.Path.{◌≡◌, refl, ap, sym, ◌∙◌}
use mathlib.Core.Logic.{◌⊎◌, inl, inr}
use mathlib.Core.Bool.{Bool, true, false, ◌&&◌, ◌||◌, true≢false}
use mathlib.Core.List.{List, [], ◌∷◌}
use lib.Dec.{ltb}
use borrow.Author.Tests.{ltb-true, ltb-false, lt-ltb}
use Rattle.terms.specs.Bits.{Place, same_place}
use Rattle.terms.proofs.Tests.{and_left, and_right, or_cases, is_false, same_place_lem, place_same}
use Rattle.indexed.specs.Index.{place_before, node_before}

-- no place is before itself
pub place_itself : (p : Place) → place_before p p ≡ false
place_itself [] = refl
place_itself (false ∷ p) = place_itself p
place_itself (true ∷ p) = place_itself p

-- of two places at most one is before the other
pub place_once : (p q : Place) → place_before p q ≡ true → place_before q p ≡ false
place_once [] [] e = refl
place_once [] (c ∷ q) e = refl
place_once (b ∷ p) [] e = absurd (true≢false (sym e))
place_once (false ∷ p) (false ∷ q) e = place_once p q e
place_once (false ∷ p) (true ∷ q) e = refl
place_once (true ∷ p) (false ∷ q) e = absurd (true≢false (sym e))
place_once (true ∷ p) (true ∷ q) e = place_once p q e

-- and of two different ones at least one is
pub place_apart : (p q : Place) → place_before p q ≡ false → place_before q p ≡ false → p ≡ q
place_apart [] [] e f = refl
place_apart [] (c ∷ q) e f = absurd (true≢false e)
place_apart (b ∷ p) [] e f = absurd (true≢false f)
place_apart (false ∷ p) (false ∷ q) e f = ap (λ x. false ∷ x) (place_apart p q e f)
place_apart (false ∷ p) (true ∷ q) e f = absurd (true≢false e)
place_apart (true ∷ p) (false ∷ q) e f = absurd (true≢false f)
place_apart (true ∷ p) (true ∷ q) e f = ap (λ x. true ∷ x) (place_apart p q e f)

-- what is before a place is before what it is before
pub place_then : (p q r : Place) → place_before p q ≡ true → place_before q r ≡ true → place_before p r ≡ true
place_then [] [] r e f = absurd (true≢false (sym e))
place_then [] (c ∷ q) [] e f = absurd (true≢false (sym f))
place_then [] (c ∷ q) (d ∷ r) e f = refl
place_then (b ∷ p) [] r e f = absurd (true≢false (sym e))
place_then (b ∷ p) (c ∷ q) [] e f = absurd (true≢false (sym f))
place_then (false ∷ p) (false ∷ q) (false ∷ r) e f = place_then p q r e f
place_then (false ∷ p) (false ∷ q) (true ∷ r) e f = refl
place_then (false ∷ p) (true ∷ q) (false ∷ r) e f = absurd (true≢false (sym f))
place_then (false ∷ p) (true ∷ q) (true ∷ r) e f = refl
place_then (true ∷ p) (false ∷ q) (d ∷ r) e f = absurd (true≢false (sym e))
place_then (true ∷ p) (true ∷ q) (false ∷ r) e f = absurd (true≢false (sym f))
place_then (true ∷ p) (true ∷ q) (true ∷ r) e f = place_then p q r e f

or_false : (a b : Bool) → a || b ≡ false → (a ≡ false) × (b ≡ false)
or_false true b e = absurd (true≢false e)
or_false false b e = (refl, e)

and_false : (a b : Bool) → a ≡ true → a && b ≡ false → b ≡ false
and_false true b h e = e
and_false false b h e = absurd (true≢false (sym h))

-- the two ways in which a record is before another
pub before_cases : (v w : ℕ) (p q : Place) → node_before v p w q ≡ true → (place_before p q ≡ true) ⊎ ((p ≡ q) × (v < w))
unfolding node_before
before_cases v w p q e = go (or_cases (place_before p q) (same_place p q && ltb v w) e)
  where
    go : (place_before p q ≡ true) ⊎ (same_place p q && ltb v w ≡ true) → (place_before p q ≡ true) ⊎ ((p ≡ q) × (v < w))
    go (inl h) = inl h
    go (inr h) = inr (same_place_lem p q (and_left (same_place p q) (ltb v w) h), ltb-true v w (and_right (same_place p q) (ltb v w) h))

-- of two records at most one is before the other
pub node_once : (v w : ℕ) (p q : Place) → node_before v p w q ≡ true → node_before w q v p ≡ false
node_once v w p q e = is_false _ (λ f. go (before_cases v w p q e) (before_cases w v q p f))
  where
    go : (place_before p q ≡ true) ⊎ ((p ≡ q) × (v < w)) → (place_before q p ≡ true) ⊎ ((q ≡ p) × (w < v)) → ⊥
    go (inl a) (inl b) = true≢false (sym b ∙ place_once p q a)
    go (inl a) (inr b) = true≢false (sym a ∙ (ap (place_before p) b.0 ∙ place_itself p))
    go (inr a) (inl b) = true≢false (sym b ∙ (ap (place_before q) a.0 ∙ place_itself q))
    go (inr a) (inr b) = absurd (omega arith)

pub by_place : (v w : ℕ) (p q : Place) → place_before p q ≡ true → node_before v p w q ≡ true
unfolding node_before
by_place v w p q e = rw (e)

pub by_version : (v w : ℕ) (p q : Place) → p ≡ q → v < w → node_before v p w q ≡ true
unfolding node_before
by_version v w p q e l = rw (← e, place_itself p, place_same p, lt-ltb v w l)

-- what is before a record is before what it is before
pub node_then : (v w x : ℕ) (p q r : Place) → node_before v p w q ≡ true → node_before w q x r ≡ true → node_before v p x r ≡ true
node_then v w x p q r e f = go (before_cases v w p q e) (before_cases w x q r f)
  where
    go : (place_before p q ≡ true) ⊎ ((p ≡ q) × (v < w)) → (place_before q r ≡ true) ⊎ ((q ≡ r) × (w < x)) → node_before v p x r ≡ true
    go (inl a) (inl b) = by_place v x p r (place_then p q r a b)
    go (inl a) (inr b) = by_place v x p r (ap (place_before p) (sym b.0) ∙ a)
    go (inr a) (inl b) = by_place v x p r (ap (λ z. place_before z r) a.0 ∙ b)
    go (inr a) (inr b) = by_version v x p r (a.0 ∙ b.0) (omega arith)

-- no record is before itself
pub node_itself : (v : ℕ) (p : Place) → node_before v p v p ≡ false
node_itself v p = is_false _ (λ e. true≢false (sym e ∙ node_once v v p p e))

-- and of two with another version or place at least one is
pub node_apart : (v w : ℕ) (p q : Place) → node_before v p w q ≡ false → node_before w q v p ≡ false → (v ≡ w) × (p ≡ q)
unfolding node_before
node_apart v w p q e f =
    let a = or_false (place_before p q) _ e in
    let b = or_false (place_before q p) _ f in
    let same = place_apart p q a.0 b.0 in
    let less = ltb-false v w (and_false (same_place p q) (ltb v w) (ap (same_place p) (sym same) ∙ place_same p) a.1) in
    let more = ltb-false w v (and_false (same_place q p) (ltb w v) (ap (same_place q) same ∙ place_same q) b.1) in
    (omega arith, same)
