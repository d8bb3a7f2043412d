-- What a test says: it passes exactly if that is so. Tests of numbers, and tests made of tests. Assumes nothing.
use Prim.Native.Nat.{ℕ, ◌<◌, ◌≤◌}
use mathlib.Core.Path.{◌≡◌, refl, ap, sym, ◌∙◌}
use mathlib.Core.Logic.{◌⊎◌, inl, inr}
use mathlib.Core.Bool.{Bool, true, false, cond, not, ◌&&◌, ◌||◌, or-true, false≢true}
use mathlib.Core.List.{List, [], ◌∷◌}
use lib.Dec.{eqb, leb, ltb}
use borrow.Author.Tests.{eqb-true, eq-eqb, leb-true, le-leb, ltb-true, lt-ltb}
use Rattle.terms.specs.Bits.{Bytes, Side, left, right, Place, All, same_bytes, same_place}
use Rattle.terms.specs.Fields.{all_of}
use Rattle.terms.proofs.Tests.{and_left, and_right, or_cases, where_passed, passed_where, is_false, same_bytes_lem, bytes_same, same_place_lem, place_same}
use Rattle.local.specs.Test.{every}

-- the test t passes exactly if P
pub record Says (t : Bool) (P : Type 0) : Type 0 where
  pub passed : t ≡ true → P
  pub passes : P → t ≡ true

pub says : {t : Bool} {P Q : Type 0} → Says t P → (P → Q) → (Q → P) → Says t Q
says s f g = record { passed = λ h. f (s.passed h); passes = λ q. s.passes (g q) }

pub itself : (t : Bool) → Says t (t ≡ true)
itself t = record { passed = λ h. h; passes = λ h. h }

pub equal : (a b : ℕ) → Says (eqb a b) (a ≡ b)
equal a b = record { passed = eqb-true a b; passes = eq-eqb a b }

pub at_most : (a b : ℕ) → Says (leb a b) (a ≤ b)
at_most a b = record { passed = leb-true a b; passes = le-leb a b }

pub less : (a b : ℕ) → Says (ltb a b) (a < b)
less a b = record { passed = ltb-true a b; passes = lt-ltb a b }

pub both : {s t : Bool} {P Q : Type 0} → Says s P → Says t Q → Says (s && t) (P × Q)
both {s} {t} p q = record {
  passed = λ h. (p.passed (and_left s t h), q.passed (and_right s t h));
  passes = λ h. rw (p.passes h.0) (q.passes h.1);
}

pub either : {s t : Bool} {P Q : Type 0} → Says s P → Says t Q → Says (s || t) (P ⊎ Q)
either {s} {t} {P} {Q} p q = record {
  passed = λ h. elim (or_cases s t h) [ inl k ↦ inl (p.passed k) | inr k ↦ inr (q.passed k) ];
  passes = go;
}
  where
    go : P ⊎ Q → s || t ≡ true
    go (inl k) = rw (p.passes k)
    go (inr k) = rw (q.passes k) (or-true s)

pub neither : {t : Bool} {P : Type 0} → Says t P → Says (not t) (P → ⊥)
neither {t} p = record {
  passed = λ h k. false≢true (sym (ap not (p.passes k)) ∙ h);
  passes = λ f. rw (is_false t (λ h. f (p.passed h)));
}

-- a test that is asked only where another passes
pub asked : {s t : Bool} {P Q : Type 0} → Says s P → Says t Q → Says (not s || t) (P → Q)
asked {s} {t} p q = record {
  passed = λ h k. q.passed (where_passed s t h (p.passes k));
  passes = λ f. passed_where s t (λ h. q.passes (f (p.passed h)));
}

-- one test or another
pub branch : {s t u : Bool} {P Q R : Type 0} → Says s P → Says t Q → Says u R → Says (cond s t u) ((P → Q) × ((P → ⊥) → R))
branch {s = true} p q r = record {
  passed = λ h. (λ k. q.passed h, λ f. absurd (f (p.passed refl)));
  passes = λ h. q.passes (h.0 (p.passed refl));
}
branch {s = false} p q r = record {
  passed = λ h. (λ k. absurd (false≢true (p.passes k)), λ f. r.passed h);
  passes = λ h. r.passes (h.1 (λ k. false≢true (p.passes k)));
}

pub same : (x y : Bytes) → Says (same_bytes x y) (x ≡ y)
same x y = record { passed = same_bytes_lem x y; passes = λ e. rw e (bytes_same y) }

pub same_place_says : (p q : Place) → Says (same_place p q) (p ≡ q)
same_place_says p q = record { passed = same_place_lem p q; passes = λ e. rw e (place_same q) }

-- the same test on both sides
pub on_sides : (f : Side → Bool) (P : Side → Type 0) → ((b : Side) → Says (f b) (P b)) → Says (f left && f right) ((b : Side) → P b)
on_sides f P s = says (both (s left) (s right)) (λ h b. elim b as P [ true ↦ h.1 | false ↦ h.0 ]) (λ h. (h left, h right))

pub each : {A : Type 0} (f : A → Bool) (P : A → Type 0) → ((x : A) → Says (f x) (P x)) → (xs : List A) → Says (every f xs) (All P xs)
each f P s [] = record { passed = λ h. tt; passes = λ h. refl }
each f P s (x ∷ xs) = both (s x) (each f P s xs)

-- a list of tests, one after the other
pub record SaysAll (ts : List Bool) (P : Type 0) : Type 0 where
  pub all : Says (all_of ts) P

pub done : SaysAll [] (Unit {0})
unfolding all_of
done = record { all = record { passed = λ h. tt; passes = λ h. refl } }

pub next : {t : Bool} {ts : List Bool} {P Q : Type 0} → Says t P → SaysAll ts Q → SaysAll (t ∷ ts) (P × Q)
unfolding all_of
next p q = record { all = both p q.all }
