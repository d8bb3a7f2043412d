-- The grants of a version in a ledger, when an entry is put before it, when one lasts, or when the older ones are left out. Assumes
-- nothing.
use Prim.Native.Nat.{ℕ, zero, suc, ◌+◌, ◌<◌, ◌≤◌}
use native.Mathlib.Omega.{arith}
use mathlib.Core.Path.{◌≡◌, refl, sym, ◌∙◌}
use mathlib.Core.Bool.{Bool, true, false, cond, true≢false}
use mathlib.Core.List.{List, [], ◌∷◌}
use mathlib.Core.Option.{none, some}
use lib.Dec.{eqb}
use borrow.Author.Tests.{le-leb, lt-leb, eqb-true, eqb-false, eq-eqb, ne_eqb}
use Rattle.terms.specs.Bits.{filter}
use Rattle.meaning.specs.History.{Entry, entry, lasting, kept_by, grants_of}

-- the first entry

pub grants_here : (v : ℕ) (e : Entry) (es : List Entry) → e.version ≡ v → grants_of v (e ∷ es) ≡ some e.grants
grants_here v e es h = rw (eq-eqb e.version v h)

pub grants_there : (v : ℕ) (e : Entry) (es : List Entry) → (e.version ≡ v → ⊥) → grants_of v (e ∷ es) ≡ grants_of v es
grants_there v e es h = rw (ne_eqb e.version v h)

-- an entry that lasts n versions more

pub grants_lasting : (v n : ℕ) (e : Entry) (es : List Entry) → e.version ≤ v → v ≤ e.version + n →
    grants_of v (lasting n e es) ≡ some e.grants
grants_lasting v zero e es l h = grants_here v e es (omega arith)
grants_lasting v (suc n) e es l h = go (eqb (e.version + suc n) v) refl (λ k. grants_lasting v n e es l k)
  where
    go : (b : Bool) → eqb (e.version + suc n) v ≡ b → (v ≤ e.version + n → grants_of v (lasting n e es) ≡ some e.grants) →
        cond b (some e.grants) (grants_of v (lasting n e es)) ≡ some e.grants
    go true p ih = refl
    go false p ih = ih (omega (arith, eqb-false (e.version + suc n) v p))

pub grants_unlasting : (v n : ℕ) (e : Entry) (es : List Entry) → (e.version < v → v ≤ e.version + n → ⊥) →
    grants_of v (lasting n e es) ≡ grants_of v (e ∷ es)
grants_unlasting v zero e es f = refl
grants_unlasting v (suc n) e es f =
    grants_there v (entry (e.version + suc n) e.grants) (lasting n e es) (λ p. f (omega arith) (omega arith))
    ∙ grants_unlasting v n e es (λ l h. f l (omega arith))

-- without the versions below n

kept_yes : (n : ℕ) (e : Entry) → n ≤ e.version → kept_by n e ≡ true
unfolding kept_by
kept_yes n e h = le-leb n e.version h

kept_not : (n : ℕ) (e : Entry) → e.version < n → kept_by n e ≡ false
unfolding kept_by
kept_not n e h = lt-leb n e.version h

pub kept_first : (n : ℕ) (e : Entry) (es : List Entry) → n ≤ e.version → filter (kept_by n) (e ∷ es) ≡ e ∷ filter (kept_by n) es
kept_first n e es h = rw (kept_yes n e h)

pub grants_kept : (v n : ℕ) (es : List Entry) → n ≤ v → grants_of v (filter (kept_by n) es) ≡ grants_of v es
grants_kept v n [] l = refl
grants_kept v n (e ∷ es) l = go (eqb e.version v) (kept_by n e) refl refl (grants_kept v n es l)
  where
    go : (a b : Bool) → eqb e.version v ≡ a → kept_by n e ≡ b → grants_of v (filter (kept_by n) es) ≡ grants_of v es →
        grants_of v (cond b (e ∷ filter (kept_by n) es) (filter (kept_by n) es)) ≡ cond a (some e.grants) (grants_of v es)
    go true true p q ih = rw p
    go true false p q ih = absurd (true≢false (sym (kept_yes n e (omega (arith, eqb-true e.version v p))) ∙ q))
    go false true p q ih = rw p ih
    go false false p q ih = ih

pub grants_dropped : (v n : ℕ) (es : List Entry) → v < n → grants_of v (filter (kept_by n) es) ≡ none
grants_dropped v n [] l = refl
grants_dropped v n (e ∷ es) l = go (kept_by n e) refl (grants_dropped v n es l)
  where
    go : (b : Bool) → kept_by n e ≡ b → grants_of v (filter (kept_by n) es) ≡ none →
        grants_of v (cond b (e ∷ filter (kept_by n) es) (filter (kept_by n) es)) ≡ none
    go true q ih = grants_there v e (filter (kept_by n) es) (λ h. true≢false (sym q ∙ kept_not n e (omega arith))) ∙ ih
    go false q ih = ih
