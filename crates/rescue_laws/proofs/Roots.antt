-- The root's rule in the source, 2026-13: the newest root record not above v. The only file that opens `source_root`. Assumes nothing.
use Prim.Native.Nat.{ℕ, ◌≤◌}
use native.Mathlib.Omega.{arith}
use mathlib.Core.Path.{◌≡◌, refl, ap, sym, ◌∙◌, subst}
use mathlib.Core.Logic.{inl, inr}
use mathlib.Core.Bool.{Bool, true, false, cond, true≢false}
use mathlib.Core.List.{List, [], ◌∷◌}
use mathlib.Core.Option.{Option, none, some, some-injective, none-ne-some}
use lib.Dec.{leb}
use borrow.Author.Tests.{leb-true, leb-false, le-leb}
use Rattle.terms.specs.Bits.{same_place}
use Rattle.terms.specs.Records.{Record, Slot, free, used, spoiled}
use Rattle.terms.proofs.Tests.{and_left, and_right, same_place_lem}
use Rattle.meaning.specs.Store.{find, is_node, retired_by}
use Rattle.meaning.proofs.Finding.{free_used, spoiled_used, used_eq}
use Rattle.histories.proofs.Slots.{Has, not_node, is_node_lem}
use Rattle.rescue_rules.specs.Rescue.{newer_root, root_up_to, newest_root, unless_retired, source_root}

up_to : (v : ℕ) (r : Record) → root_up_to v r ≡ true → (r.place ≡ []) × (r.version ≤ v)
unfolding root_up_to
up_to v r h = (same_place_lem r.place [] (and_left (same_place r.place []) _ h), leb-true r.version v (and_right (same_place r.place []) _ h))

to_up : (v : ℕ) (r : Record) → r.place ≡ [] → r.version ≤ v → root_up_to v r ≡ true
unfolding root_up_to
to_up v r e l = rw (e, le-leb r.version v l) refl

-- the newest root record not above v: the lowest slot of its version, and no other is newer
pub data Newest (v : ℕ) (s : List Slot) : Option Record → Type 0 where
  no_root_lem : ((q : Record) → Has q s → q.place ≡ [] → q.version ≤ v → ⊥) → Newest v s none
  is_newest : (r : Record) → r.place ≡ [] → r.version ≤ v → find r.version [] s ≡ some r →
      ((q : Record) → Has q s → q.place ≡ [] → q.version ≤ v → q.version ≤ r.version) → Newest v s (some r)

-- past a slot that is no such record
past : (v : ℕ) (y : Slot) (s : List Slot) (o : Option Record) → ((q : Record) → y ≡ used q → q.place ≡ [] → q.version ≤ v → ⊥) →
    ((w : ℕ) → w ≤ v → find w [] (y ∷ s) ≡ find w [] s) → Newest v s o → Newest v (y ∷ s) o
past v y s none k g (no_root_lem f) = no_root_lem (λ q h e l. elim h [ inl u ↦ k q u e l | inr h' ↦ f q h' e l ])
past v y s (some r) k g (is_newest r' e l h f) = is_newest r e l (g r.version l ∙ h) (λ q m d c. elim m [ inl u ↦ absurd (k q u d c) | inr m' ↦ f q m' d c ])

find_past : (w : ℕ) (r : Record) (s : List Slot) → is_node w [] r ≡ false → find w [] (used r ∷ s) ≡ find w [] s
find_past w r s e = rw e refl

with_root : (v : ℕ) (x : Record) (s : List Slot) → x.place ≡ [] → x.version ≤ v → (o : Option Record) → Newest v s o →
    Newest v (used x ∷ s) (newer_root x o)
with_root v x s e l none (no_root_lem f) =
    is_newest x e l (here x s e) (λ q m d c. elim m [ inl u ↦ omega (arith, ap (λ y. y.version) (used_eq x q u)) | inr m' ↦ absurd (f q m' d c) ])
  where
    here : (x : Record) (s : List Slot) → x.place ≡ [] → find x.version [] (used x ∷ s) ≡ some x
    here x s e = rw (subst (λ p. is_node x.version p x ≡ true) e (is_node_lem x x refl refl)) refl
with_root v x s e l (some r) (is_newest r' d k h f) = go (leb r.version x.version) refl
  where
    here : find x.version [] (used x ∷ s) ≡ some x
    here = rw (subst (λ p. is_node x.version p x ≡ true) e (is_node_lem x x refl refl)) refl

    go : (b : Bool) → leb r.version x.version ≡ b → Newest v (used x ∷ s) (cond b (some x) (some r))
    go true c = let o = leb-true r.version x.version c in
        is_newest x e l here (λ q m i j. elim m [ inl u ↦ omega (arith, ap (λ y. y.version) (used_eq x q u)) | inr m' ↦ omega (arith, f q m' i j) ])
    go false c = let o = leb-false r.version x.version c in
        is_newest r d k (find_past r.version x s (not_node r.version [] x (λ i j. omega arith)) ∙ h)
        (λ q m i j. elim m [ inl u ↦ omega (arith, ap (λ y. y.version) (used_eq x q u)) | inr m' ↦ f q m' i j ])

pub newest_root_lem : (v : ℕ) (s : List Slot) → Newest v s (newest_root v s)
newest_root_lem v [] = no_root_lem (λ q h e l. h)
newest_root_lem v (free ∷ s) = past v free s _ (λ q u e l. free_used q u) (λ w l. refl) (newest_root_lem v s)
newest_root_lem v (used x ∷ s) = go (root_up_to v x) refl (newest_root_lem v s)
  where
    go : (b : Bool) → root_up_to v x ≡ b → Newest v s (newest_root v s) →
        Newest v (used x ∷ s) (cond b (newer_root x (newest_root v s)) (newest_root v s))
    go true e h = let u = up_to v x e in with_root v x s u.0 u.1 _ h
    go false e h =
        past v (used x) s _ (λ q u d l. true≢false (sym (to_up v q d l) ∙ ap (root_up_to v) (sym (used_eq x q u)) ∙ e))
        (λ w l. find_past w x s (not_node w [] x (λ i j. true≢false (sym (to_up v x j (omega (arith, i))) ∙ e)))) h
newest_root_lem v (spoiled y ∷ s) = past v (spoiled y) s _ (λ q u e l. spoiled_used y q u) (λ w l. refl) (newest_root_lem v s)

module _ (s : List Slot) (v : ℕ) (r : Record) (e : source_root s v ≡ some r) where
  found : Newest v s (some r)
  unfolding source_root
  found = go (newest_root v s) (newest_root_lem v s) e
    where
      go : (o : Option Record) → Newest v s o → unless_retired v o ≡ some r → Newest v s (some r)
      go none h k = absurd (none-ne-some r k)
      go (some q) h k = pick (retired_by v q) k
        where
          pick : (b : Bool) → cond b none (some q) ≡ some r → Newest v s (some r)
          pick true k = absurd (none-ne-some r k)
          pick false k = subst (Newest v s) k h

  pub root_place : r.place ≡ []
  root_place = go found
    where
      go : Newest v s (some r) → r.place ≡ []
      go (is_newest r' d l h f) = d

  pub root_up_to_lem : r.version ≤ v
  root_up_to_lem = go found
    where
      go : Newest v s (some r) → r.version ≤ v
      go (is_newest r' d l h f) = l

  -- what is found as a root is found at its version and the empty place
  pub root_at_lem : find r.version [] s ≡ some r
  root_at_lem = go found
    where
      go : Newest v s (some r) → find r.version [] s ≡ some r
      go (is_newest r' d l h f) = h

  pub root_newest : (q : Record) → Has q s → q.place ≡ [] → q.version ≤ v → q.version ≤ r.version
  root_newest = go found
    where
      go : Newest v s (some r) → (q : Record) → Has q s → q.place ≡ [] → q.version ≤ v → q.version ≤ r.version
      go (is_newest r' d l h f) = f

  -- and it isn't retired by then
  pub root_lives : retired_by v r ≡ false
  unfolding source_root
  root_lives = go (newest_root v s) e
    where
      go : (o : Option Record) → unless_retired v o ≡ some r → retired_by v r ≡ false
      go none k = absurd (none-ne-some r k)
      go (some q) k = pick (retired_by v q) refl k
        where
          pick : (b : Bool) → retired_by v q ≡ b → cond b none (some q) ≡ some r → retired_by v r ≡ false
          pick true g k = absurd (none-ne-some r k)
          pick false g k = sym (ap (retired_by v) (some-injective q r k)) ∙ g
