-- What the records in the slots give, taken together by an operation that doesn't ask for order: in parts, and by a test that one record passes. Assumes
-- nothing.
use Prim.Native.Nat.{ℕ}
use mathlib.Core.Path.{◌≡◌, refl, ap, ap₂, sym, ◌∙◌}
use mathlib.Core.Logic.{◌⊎◌, inl, inr}
use mathlib.Core.Bool.{Bool, true, false, cond, true≢false}
use mathlib.Core.List.{List, [], ◌∷◌}
use mathlib.Core.Option.{Option, none, some, none-ne-some, some-injective}
use Rattle.terms.specs.Bits.{Place}
use Rattle.terms.specs.Records.{Record, Slot, free, used, spoiled}
use Rattle.terms.proofs.Tests.{is_false}
use Rattle.meaning.specs.Store.{is_node, find}
use Rattle.meaning.proofs.Finding.{is_node_eq}
use Rattle.histories.proofs.Slots.{Has, find_has, Unique}
use Rattle.quarter.specs.Living.{only_if, over_slots}

-- an operation that doesn't ask for order, with 0 for nothing
pub record Orderless (together : ℕ → ℕ → ℕ) : Type 0 where
  pub nothing : (a : ℕ) → together 0 a ≡ a
  pub exchanged : (a b : ℕ) → together a b ≡ together b a
  pub grouped : (a b c : ℕ) → together (together a b) c ≡ together a (together b c)

module _ (◌⊕◌ : ℕ → ℕ → ℕ) (o : Orderless ◌⊕◌) where
  infixl 20 ◌⊕◌
  -- the same of each record
  pub over_same : (f g : Record → ℕ) (s : List Slot) → ((r : Record) → Has r s → f r ≡ g r) → over_slots ◌⊕◌ f s ≡ over_slots ◌⊕◌ g s
  over_same f g [] h = refl
  over_same f g (free ∷ s) h = over_same f g s (λ r k. h r (inr k))
  over_same f g (used r ∷ s) h = ap₂ ◌⊕◌ (h r (inl refl)) (over_same f g s (λ q k. h q (inr k)))
  over_same f g (spoiled x ∷ s) h = over_same f g s (λ r k. h r (inr k))

  -- nothing of each record
  over_nothing : (s : List Slot) → over_slots ◌⊕◌ (λ r. 0) s ≡ 0
  over_nothing [] = refl
  over_nothing (free ∷ s) = over_nothing s
  over_nothing (used r ∷ s) = o.nothing _ ∙ over_nothing s
  over_nothing (spoiled x ∷ s) = over_nothing s

  pub over_none : (test : Record → Bool) (f : Record → ℕ) (s : List Slot) → ((r : Record) → Has r s → test r ≡ false) → over_slots ◌⊕◌ (only_if test f) s ≡ 0
  over_none test f s h = over_same (only_if test f) (λ r. 0) s (λ r k. ap (λ b. cond b (f r) 0) (h r k)) ∙ over_nothing s

  -- two parts of what each gives
  halves : (a b c d : ℕ) → (a ⊕ b) ⊕ (c ⊕ d) ≡ (a ⊕ c) ⊕ (b ⊕ d)
  halves a b c d =
      o.grouped a b (c ⊕ d)
      ∙ ap (◌⊕◌ a) (sym (o.grouped b c d) ∙ ap (λ x. x ⊕ d) (o.exchanged b c) ∙ o.grouped c b d)
      ∙ sym (o.grouped a c (b ⊕ d))

  pub over_both : (f g : Record → ℕ) (s : List Slot) → over_slots ◌⊕◌ (λ r. f r ⊕ g r) s ≡ over_slots ◌⊕◌ f s ⊕ over_slots ◌⊕◌ g s
  over_both f g [] = sym (o.nothing 0)
  over_both f g (free ∷ s) = over_both f g s
  over_both f g (used r ∷ s) = ap (◌⊕◌ (f r ⊕ g r)) (over_both f g s) ∙ halves (f r) (g r) (over_slots ◌⊕◌ f s) (over_slots ◌⊕◌ g s)
  over_both f g (spoiled x ∷ s) = over_both f g s

  -- two tests that no record passes both
  either : (a b c : Bool) (x : ℕ) → (c ≡ true → (a ≡ true) ⊎ (b ≡ true)) → (a ≡ true → c ≡ true) → (b ≡ true → c ≡ true) → (a ≡ true → b ≡ true → ⊥) →
      cond c x 0 ≡ cond a x 0 ⊕ cond b x 0
  either true true c x f g h k = absurd (k refl refl)
  either true false c x f g h k = ap (λ b. cond b x 0) (g refl) ∙ sym (o.exchanged x 0 ∙ o.nothing x)
  either false true c x f g h k = ap (λ b. cond b x 0) (h refl) ∙ sym (o.nothing x)
  either false false true x f g h k = elim (f refl) [ inl e ↦ absurd (true≢false (sym e)) | inr e ↦ absurd (true≢false (sym e)) ]
  either false false false x f g h k = sym (o.nothing 0)

  pub over_either : (a b c : Record → Bool) (f : Record → ℕ) (s : List Slot) → ((r : Record) → c r ≡ true → (a r ≡ true) ⊎ (b r ≡ true)) →
      ((r : Record) → a r ≡ true → c r ≡ true) → ((r : Record) → b r ≡ true → c r ≡ true) → ((r : Record) → a r ≡ true → b r ≡ true → ⊥) →
      over_slots ◌⊕◌ (only_if c f) s ≡ over_slots ◌⊕◌ (only_if a f) s ⊕ over_slots ◌⊕◌ (only_if b f) s
  over_either a b c f s e g h k =
      over_same (only_if c f) (λ r. only_if a f r ⊕ only_if b f r) s (λ r m. either (a r) (b r) (c r) (f r) (e r) (g r) (h r) (k r))
      ∙ over_both (only_if a f) (only_if b f) s

  -- the one record of a node
  module _ (f : Record → ℕ) (v : ℕ) (p : Place) where
    not_found : (s : List Slot) → find v p s ≡ none → over_slots ◌⊕◌ (only_if (is_node v p) f) s ≡ 0
    not_found [] e = refl
    not_found (free ∷ s) e = not_found s e
    not_found (used q ∷ s) e = go (λ h. not_found s h) (is_node v p q) refl e
      where
        go : (find v p s ≡ none → over_slots ◌⊕◌ (only_if (is_node v p) f) s ≡ 0) → (b : Bool) → is_node v p q ≡ b → cond b (some q) (find v p s) ≡ none →
            only_if (is_node v p) f q ⊕ over_slots ◌⊕◌ (only_if (is_node v p) f) s ≡ 0
        go rest true k h = absurd (none-ne-some q (sym h))
        go rest false k h = ap₂ (λ b n. cond b (f q) 0 ⊕ n) k (rest h) ∙ o.nothing 0
    not_found (spoiled x ∷ s) e = not_found s e

    pub over_one : (s : List Slot) (r : Record) → Unique s → find v p s ≡ some r → over_slots ◌⊕◌ (only_if (is_node v p) f) s ≡ f r
    over_one [] r u e = absurd (none-ne-some r e)
    over_one (free ∷ s) r u e = over_one s r u e
    over_one (used q ∷ s) r u e = go (λ h. over_one s r u.1 h) (is_node v p q) refl e
      where
        go : (find v p s ≡ some r → over_slots ◌⊕◌ (only_if (is_node v p) f) s ≡ f r) → (b : Bool) → is_node v p q ≡ b → cond b (some q) (find v p s) ≡ some r →
            only_if (is_node v p) f q ⊕ over_slots ◌⊕◌ (only_if (is_node v p) f) s ≡ f r
        go rest true k h =
            let w = is_node_eq v p q k in
            let alone : find v p s ≡ none = sym (ap₂ (λ x y. find x y s) w.0 w.1) ∙ u.0 in
            ap₂ (λ b n. cond b (f q) 0 ⊕ n) k (not_found s alone) ∙ o.exchanged (f q) 0 ∙ o.nothing (f q) ∙ ap f (some-injective q r h)
        go rest false k h = ap₂ (λ b n. cond b (f q) 0 ⊕ n) k (rest h) ∙ o.nothing (f r)
    over_one (spoiled x ∷ s) r u e = over_one s r u e
