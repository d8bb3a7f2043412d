-- Slots without their numbers: what stands in a list of slots, that a record is found where no two share version and place, and roots.
-- Assumes nothing.
use Prim.Native.Nat.{ℕ, zero, suc, ◌<◌}
use native.Mathlib.Omega.{arith}
use mathlib.Core.Path.{◌≡◌, refl, ap, sym, ◌∙◌, subst₂}
use mathlib.Core.Bool.{true, false, true≢false}
use mathlib.Core.List.{List, [], ◌∷◌}
use mathlib.Core.Option.{Option, none, some, none-ne-some, some-ne-none}
use lib.ListN.{length, get_or}
use Rattle.terms.specs.Bits.{Bytes, Place}
use Rattle.terms.specs.Records.{Record, Slot, free, used, spoiled, Store}
use Rattle.terms.proofs.Tests.{is_false}
use Rattle.terms.proofs.Members.{In, get_d_in, in_get_d}
use Rattle.meaning.specs.Store.{find, is_node, root_of}
use Rattle.meaning.specs.Sound.{At, Lives}
use Rattle.meaning.proofs.Finding.{Hit, miss, hit, hits, found_in, is_node_eq, is_node_refl, free_used, spoiled_used, used_eq}
use Rattle.meaning.proofs.Roots.{root_at_lem, no_root_lem}

-- a record stands in a slot
abbrev pub Has : Record → List Slot → Type 0
Has r s = In (used r) s

pub free_spoiled : {A : Type 0} (x : Bytes) → free ≡ spoiled x → A
free_spoiled x e = let z : ◌≡◌ {A = ℕ} 0 1 = cc in absurd (omega arith)

pub find_has : (v : ℕ) (p : Place) (s : List Slot) (r : Record) → find v p s ≡ some r → Has r s × (r.version ≡ v) × (r.place ≡ p)
find_has v p s r e = let (i, at, w, q) = found_in s v p r e in (get_d_in s i free (used r) at.0 at.1, w, q)

find_none : (v : ℕ) (p : Place) (s : List Slot) → find v p s ≡ none → (r : Record) → Has r s → is_node v p r ≡ false
find_none v p s e r h = go _ (hits s v p) e
  where
    go : (o : Option Record) → Hit s v p o → o ≡ none → is_node v p r ≡ false
    go none (miss f) k = let m = in_get_d s free (used r) h in f m.0 r m.1 m.2
    go (some q) (hit i q' l g n) k = absurd (some-ne-none q k)

pub none_find : (v : ℕ) (p : Place) (s : List Slot) → ((r : Record) → Has r s → is_node v p r ≡ true → ⊥) → find v p s ≡ none
none_find v p s f = go _ (hits s v p)
  where
    go : (o : Option Record) → Hit s v p o → o ≡ none
    go none (miss g) = refl
    go (some q) (hit i q' l g n) = absurd (f q' (get_d_in s i free (used q') l g) n)

pub is_node_lem : (r q : Record) → r.version ≡ q.version → r.place ≡ q.place → is_node r.version r.place q ≡ true
is_node_lem r q e f = subst₂ (λ v p. is_node v p q ≡ true) (sym e) (sym f) (is_node_refl q)

pub not_node : (v : ℕ) (p : Place) (r : Record) → (r.version ≡ v → r.place ≡ p → ⊥) → is_node v p r ≡ false
not_node v p r f = is_false (is_node v p r) (λ e. let w = is_node_eq v p r e in f w.0 w.1)

-- no two records share version and place
abbrev pub Unique : List Slot → Type 0
Unique [] = Unit {0}
Unique (free ∷ s) = Unique s
Unique (used r ∷ s) = (find r.version r.place s ≡ none) × Unique s
Unique (spoiled x ∷ s) = Unique s

-- the same, by the slots' numbers
abbrev pub UniqueAt : List Slot → Type 0
UniqueAt s =
    (i j : ℕ) (r q : Record) → i < length s → get_or s i free ≡ used r → j < length s → get_or s j free ≡ used q →
    r.version ≡ q.version → r.place ≡ q.place → i ≡ j

at_tail : (x : Slot) (s : List Slot) → UniqueAt (x ∷ s) → UniqueAt s
at_tail x s h i j r q a b c d e f = let k = h (suc i) (suc j) r q (omega arith) b (omega arith) d e f in omega arith

pub at_unique : (s : List Slot) → UniqueAt s → Unique s
at_unique [] h = tt
at_unique (free ∷ s) h = at_unique s (at_tail free s h)
at_unique (used r ∷ s) h = (
  none_find r.version r.place s (λ q k n.
      let w = is_node_eq r.version r.place q n in
      let m = in_get_d s free (used q) k in
      let z : 0 ≡ suc m.0 = h 0 (suc m.0) r q (omega arith) refl (omega (arith, m.1)) m.2 (sym w.0) (sym w.1) in
      omega arith),
  at_unique s (at_tail (used r) s h),
)
at_unique (spoiled x ∷ s) h = at_unique s (at_tail (spoiled x) s h)

unique_head : (x : Slot) (s : List Slot) → Unique (x ∷ s) →
    (r q : Record) → x ≡ used r → Has q s → r.version ≡ q.version → r.place ≡ q.place → ⊥
unique_head free s h r q e k f g = free_used r e
unique_head (used y) s h r q e k f g =
    let m : y ≡ r = used_eq y r e in
    true≢false (sym (is_node_lem r q f g) ∙ find_none r.version r.place s (ap (λ u. find u.version u.place s) (sym m) ∙ h.0) q k)
unique_head (spoiled x) s h r q e k f g = spoiled_used x r e

unique_tail : (x : Slot) (s : List Slot) → Unique (x ∷ s) → Unique s
unique_tail free s h = h
unique_tail (used r) s h = h.1
unique_tail (spoiled x) s h = h

pub unique_at : (s : List Slot) → Unique s → UniqueAt s
unique_at [] h i j r q a b c d e f = absurd (omega arith)
unique_at (x ∷ s) h zero zero r q a b c d e f = refl
unique_at (x ∷ s) h zero (suc j) r q a b c d e f = absurd (unique_head x s h r q b (get_d_in s j free (used q) (omega arith) d) e f)
unique_at (x ∷ s) h (suc i) zero r q a b c d e f =
    absurd (unique_head x s h q r d (get_d_in s i free (used r) (omega arith) b) (sym e) (sym f))
unique_at (x ∷ s) h (suc i) (suc j) r q a b c d e f =
    ap suc (unique_at s (unique_tail x s h) i j r q (omega arith) b (omega arith) d e f)

-- where no two share them, a record is found
pub unique_find : (s : List Slot) (r : Record) → Unique s → Has r s → find r.version r.place s ≡ some r
unique_find s r h k = go _ (hits s r.version r.place)
  where
    go : (o : Option Record) → Hit s r.version r.place o → o ≡ some r
    go none (miss f) = let m = in_get_d s free (used r) k in absurd (true≢false (sym (is_node_refl r) ∙ f m.0 r m.1 m.2))
    go (some q) (hit i q' l g n) =
        let w = is_node_eq r.version r.place q' n in
        let m = in_get_d s free (used r) k in
        let e : i ≡ m.0 = unique_at s h i m.0 q' r l g m.1 m.2 w.0 w.1 in
        ap some (used_eq q' r (sym g ∙ ap (λ x. get_or s x free) e ∙ m.2))

-- the root of a version is a root record that lives then; where none is found, there is none
pub root_has : (st : Store) (v : ℕ) (r : Record) → root_of st v ≡ some r → Has r st.slots × (r.place ≡ []) × Lives v r
unfolding At
root_has st v r e = let (i, a, p, l) = root_at_lem st v r e in (get_d_in st.slots i free (used r) a.0 a.1, p, l)

pub root_not : (st : Store) (v : ℕ) → root_of st v ≡ none → (r : Record) → Has r st.slots → r.place ≡ [] → Lives v r → ⊥
unfolding At
root_not st v e r h p l = let m = in_get_d st.slots free (used r) h in no_root_lem st v e m.0 r (m.1, m.2) p l
