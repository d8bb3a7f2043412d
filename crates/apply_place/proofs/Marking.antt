-- Where at most one record is a node, marking the node is marking the slot where it is found. Assumes nothing.
use Prim.Native.Nat.{ℕ, zero, suc, ◌<◌}
use mathlib.Core.Path.{◌≡◌, refl, ap, ap₂, sym, ◌∙◌, subst}
use mathlib.Core.Bool.{Bool, true, false, false≢true}
use mathlib.Core.List.{List, [], ◌∷◌}
use mathlib.Core.Option.{Option, none, some, none-ne-some, some-injective}
use lib.ListN.{length, get_or, set}
use Rattle.terms.specs.Bits.{Place}
use Rattle.terms.specs.Records.{Record, Slot, free, used, spoiled}
use Rattle.meaning.specs.Store.{find, is_node, marked}
use Rattle.meaning.proofs.Finding.{free_used, spoiled_used, used_eq, Hit, hit, hits}
use Rattle.std.specs.declared.option.Option as option
use Rattle.std.specs.Prelude.{Some, None}
use Rattle.lookup.specs.Lookup.{FoundIn}
use Rattle.steps.specs.Writing.{mark_in, mark}
use Rattle.apply_place.specs.Placing.{Single, node_at}

-- what was found, by its case
pub found_none : (v : ℕ) (p : Place) (s : List Slot) {o : option.Option ℕ} → o ≡ None → FoundIn s v p o → find v p s ≡ none
found_none v p s e f = subst (FoundIn s v p) e f

pub found_at : (v : ℕ) (p : Place) (s : List Slot) {o : option.Option ℕ} {i : ℕ} → o ≡ Some i → FoundIn s v p o →
    (i < length s) × ((r : Record) × (get_or s i free ≡ used r) × (find v p s ≡ some r))
found_at v p s e f = subst (FoundIn s v p) e f

module _ (new v : ℕ) (p : Place) where
  abbrev pub marks : List Slot → List Slot
  marks s = mark new (node_at v p ∷ []) s

  -- a record that is not found is not marked
  pub mark_none : (s : List Slot) → find v p s ≡ none → marks s ≡ s
  unfolding mark_in
  mark_none [] e = refl
  mark_none (free ∷ s) e = ap (free ∷◌) (mark_none s e)
  mark_none (spoiled x ∷ s) e = ap (spoiled x ∷◌) (mark_none s e)
  mark_none (used r ∷ s) e = go (mark_none s) (is_node v p r) refl
    where
      go : (find v p s ≡ none → marks s ≡ s) → (b : Bool) → is_node v p r ≡ b → marks (used r ∷ s) ≡ used r ∷ s
      go rest true k = absurd (none-ne-some r (sym e ∙ rw k))
      go rest false k = rw k (ap (used r ∷◌) (rest (rw k at e)))

  -- the record found is the node
  pub found_node : (s : List Slot) (r : Record) → find v p s ≡ some r → is_node v p r ≡ true
  found_node s r e = go (find v p s) (hits s v p) e
    where
      go : (o : Option Record) → Hit s v p o → o ≡ some r → is_node v p r ≡ true
      go none h k = absurd (none-ne-some r k)
      go (some q) (hit i x l u n) k = subst (λ x. is_node v p x ≡ true) (some-injective q r k) n

  none_at : (s : List Slot) (i : ℕ) (r : Record) → find v p s ≡ none → get_or s i free ≡ used r → is_node v p r ≡ true → ⊥
  none_at [] i r e u n = free_used r u
  none_at (free ∷ s) zero r e u n = free_used r u
  none_at (free ∷ s) (suc i) r e u n = none_at s i r e u n
  none_at (spoiled x ∷ s) zero r e u n = spoiled_used x r u
  none_at (spoiled x ∷ s) (suc i) r e u n = none_at s i r e u n
  none_at (used q ∷ s) i r e u n = go (λ k. none_at s k r) (is_node v p q) refl i u
    where
      go : ((k : ℕ) → find v p s ≡ none → get_or s k free ≡ used r → is_node v p r ≡ true → ⊥) → (b : Bool) → is_node v p q ≡ b → (k : ℕ) → get_or (used q ∷ s) k free ≡ used r → ⊥
      go rest true f k g = absurd (none-ne-some q (sym e ∙ rw f))
      go rest false f zero g = false≢true (sym f ∙ ap (is_node v p) (used_eq q r g) ∙ n)
      go rest false f (suc k) g = rest k (rw f at e) g n

  -- a slot that holds the node is the one found
  pub single_finds : (s : List Slot) (i : ℕ) (r : Record) → Single v p s → get_or s i free ≡ used r → is_node v p r ≡ true → find v p s ≡ some r
  single_finds [] i r h u n = free_used r u
  single_finds (free ∷ s) zero r h u n = free_used r u
  single_finds (free ∷ s) (suc i) r h u n = single_finds s i r h u n
  single_finds (spoiled x ∷ s) zero r h u n = spoiled_used x r u
  single_finds (spoiled x ∷ s) (suc i) r h u n = single_finds s i r h u n
  single_finds (used q ∷ s) i r h u n = go (λ k g. single_finds s k r h.1 g n) (is_node v p q) refl i u
    where
      go : ((k : ℕ) → get_or s k free ≡ used r → find v p s ≡ some r) → (b : Bool) → is_node v p q ≡ b → (k : ℕ) → get_or (used q ∷ s) k free ≡ used r →
          find v p (used q ∷ s) ≡ some r
      go rest true f zero g = rw f (ap some (used_eq q r g))
      go rest true f (suc k) g = absurd (none_at s k r (h.0 f) g n)
      go rest false f zero g = absurd (false≢true (sym f ∙ ap (is_node v p) (used_eq q r g) ∙ n))
      go rest false f (suc k) g = rw f (rest k g)

  -- the one found is, and no other
  pub mark_found : (s : List Slot) (i : ℕ) (r : Record) → Single v p s → get_or s i free ≡ used r → find v p s ≡ some r →
      marks s ≡ set s i (used (marked new r))
  unfolding mark_in
  mark_found [] i r h u e = free_used r u
  mark_found (free ∷ s) zero r h u e = free_used r u
  mark_found (free ∷ s) (suc i) r h u e = ap (free ∷◌) (mark_found s i r h u e)
  mark_found (spoiled x ∷ s) zero r h u e = spoiled_used x r u
  mark_found (spoiled x ∷ s) (suc i) r h u e = ap (spoiled x ∷◌) (mark_found s i r h u e)
  mark_found (used q ∷ s) i r h u e = go (λ k. mark_found s k r h.1) (found_node (used q ∷ s) r e) (is_node v p q) refl i u
    where
      go : ((k : ℕ) → get_or s k free ≡ used r → find v p s ≡ some r → marks s ≡ set s k (used (marked new r))) → is_node v p r ≡ true →
          (b : Bool) → is_node v p q ≡ b → (k : ℕ) → get_or (used q ∷ s) k free ≡ used r → marks (used q ∷ s) ≡ set (used q ∷ s) k (used (marked new r))
      go rest n true f zero g = rw f (ap₂ ◌∷◌ (ap (λ x. used (marked new x)) (used_eq q r g)) (mark_none s (h.0 f)))
      go rest n true f (suc k) g = absurd (none_at s k r (h.0 f) g n)
      go rest n false f zero g = absurd (false≢true (sym f ∙ ap (is_node v p) (used_eq q r g) ∙ n))
      go rest n false f (suc k) g = rw f (ap (used q ∷◌) (rest k g (rw f at e)))
