-- A read that tests some rows first and then is stopped by the first trouble that it meets: its number is exact in the low half, and its slot in
-- the high one. Assumes nothing.
use Prim.Native.Nat.{ℕ, ◌+◌, ◌/◌, ◌<◌}
use native.Mathlib.Omega.{arith}
use mathlib.Core.Path.{◌≡◌, ap, sym, ◌∙◌, subst}
use mathlib.Core.Logic.{inl, inr}
use mathlib.Core.Bool.{Bool, true, ◌&&◌}
use mathlib.Core.List.{[], ◌∷◌, ◌++◌}
use lib.Dec.{ltb}
use borrow.Author.Tests.{ltb-true}
use Rattle.terms.proofs.Tests.{and_left, and_right}
use Rattle.meaning.specs.Reading.{Trouble, lost_record, spoilt_record, stray_leaf, beside, refusal_of}
use Rattle.refusals.specs.Exactly.{Table, NoneOf, low, Names}
use Rattle.refusals.specs.Tables.{Unsound}
use Rattle.refusals.proofs.Exactly.{First, past, within}

-- what a read answers: a row that is tested first; the one trouble that stops it; or a row that is tested after it
pub data Stopped (early later : Table) (stops : Trouble → Type 0) (n : ℕ) : Type 0 where
  tested : First early n → (n ≡ 0 → ⊥) → Stopped early later stops n
  met : NoneOf early → (t : Trouble) → stops t → ((u : Trouble) → stops u → t ≡ u) → n ≡ refusal_of t → Stopped early later stops n
  passed : NoneOf early → ((t : Trouble) → stops t → ⊥) → First later n → Stopped early later stops n

-- with rows before it
none_of : (rows early : Table) → NoneOf rows → NoneOf early → NoneOf (rows ++ early)
none_of [] early a b = b
none_of (row ∷ rows) early a b = (a.0, none_of rows early a.1 b)

module _ {later : Table} {stops : Trouble → Type 0} {n : ℕ} (rows early : Table) where
  pub stopped_past : NoneOf rows → Stopped early later stops n → Stopped (rows ++ early) later stops n
  stopped_past none (tested f z) = tested (past rows early n none f) z
  stopped_past none (met e t p one q) = met (none_of rows early none e) t p one q
  stopped_past none (passed e p f) = passed (none_of rows early none e) p f

  pub stopped_within : First rows n → (n ≡ 0 → ⊥) → Stopped (rows ++ early) later stops n
  stopped_within f z = tested (within rows early n f z) z

-- the numbers of a table have 32 bits
abbrev pub small : Table → Bool
small [] = true
small (row ∷ rows) = ltb row.0 4294967296 && small rows

first_small : (rows : Table) (n : ℕ) → small rows ≡ true → First rows n → n < 4294967296
first_small [] n h f = omega arith
first_small (row ∷ rows) n h (inl f) = let z = ltb-true row.0 4294967296 (and_left _ (small rows) h) in omega (arith, f.1)
first_small (row ∷ rows) n h (inr f) = first_small rows n (and_right (ltb row.0 4294967296) (small rows) h) f.1

no_first : (rows : Table) (n : ℕ) → NoneOf rows → First rows n → n ≡ 0
no_first [] n none f = f
no_first (row ∷ rows) n none (inl f) = absurd (none.0 f.0)
no_first (row ∷ rows) n none (inr f) = no_first rows n none.1 f.1

-- the halves of a number
abbrev high : ℕ → ℕ
high r = r / 4294967296

small_low : (n : ℕ) → n < 4294967296 → low n ≡ n
unfolding low
small_low n h = omega arith

small_high : (n : ℕ) → n < 4294967296 → high n ≡ 0
small_high n h = omega arith

beside_low : (i : ℕ) → low (beside 3 i) ≡ 3
unfolding low beside
beside_low i = omega arith

beside_high : (i : ℕ) → high (beside 3 i) ≡ i + 1
unfolding beside
beside_high i = omega arith

clash : {A : Type 0} → ◌≡◌ {A = ℕ} 0 1 → A
clash e = absurd (omega arith)

none_unsound : {stops : Trouble → Type 0} → ((t : Trouble) → stops t → ⊥) → Unsound stops → ⊥
none_unsound f (inl p) = f stray_leaf p
none_unsound f (inr (i, p)) = f (spoilt_record i) p

module _ {early later : Table} {stops : Trouble → Type 0} {n : ℕ} (few : small early ≡ true) (more : small later ≡ true)
    (w : Stopped early later stops n) where
  -- Which of 17 and 3 it is, or which other row.
  first_met : (t : Trouble) → stops t → ((u : Trouble) → stops u → t ≡ u) → n ≡ refusal_of t →
      First ((17, stops lost_record) ∷ (3, Unsound stops) ∷ later) (low n)
  first_met lost_record p one e = inl (p, ap low e ∙ small_low 17 (omega arith))
  first_met (spoilt_record i) p one e = inr (λ q. let z = one lost_record q in clash (cc), inl (inr (i, p), ap low e ∙ beside_low i))
  first_met stray_leaf p one e = inr (λ q. let z = one lost_record q in clash (cc), inl (inl p, ap low e ∙ small_low 3 (omega arith)))

  after : First later n → First later (low n)
  after f = subst (First later) (sym (small_low n (first_small later n more f))) f

  before : First early n → First early (low n)
  before f = subst (First early) (sym (small_low n (first_small early n few f))) f

  pub stopped_first : First (early ++ (17, stops lost_record) ∷ (3, Unsound stops) ∷ later) (low n)
  stopped_first = go w
    where
      go : Stopped early later stops n → First (early ++ (17, stops lost_record) ∷ (3, Unsound stops) ∷ later) (low n)
      go (tested f z) =
          let e = small_low n (first_small early n few f) in within early ((17, stops lost_record) ∷ (3, Unsound stops) ∷ later) (low n) (before f) (λ q. z (sym e ∙ q))
      go (met none t p one e) = past early ((17, stops lost_record) ∷ (3, Unsound stops) ∷ later) (low n) none (first_met t p one e)
      go (passed none p f) = past early ((17, stops lost_record) ∷ (3, Unsound stops) ∷ later) (low n) none (inr (p lost_record, inr (none_unsound p, after f)))

  -- The same of a read that no lost record stops.
  pub stopped_found : (stops lost_record → ⊥) → First (early ++ (3, Unsound stops) ∷ later) (low n)
  stopped_found found = go w
    where
      met_here : (t : Trouble) → stops t → n ≡ refusal_of t → First ((3, Unsound stops) ∷ later) (low n)
      met_here lost_record p e = absurd (found p)
      met_here (spoilt_record i) p e = inl (inr (i, p), ap low e ∙ beside_low i)
      met_here stray_leaf p e = inl (inl p, ap low e ∙ small_low 3 (omega arith))

      go : Stopped early later stops n → First (early ++ (3, Unsound stops) ∷ later) (low n)
      go (tested f z) =
          let e = small_low n (first_small early n few f) in within early _ (low n) (before f) (λ q. z (sym e ∙ q))
      go (met none t p one e) = past early _ (low n) none (met_here t p e)
      go (passed none p f) = past early _ (low n) none (inr (none_unsound p, after f))

  -- Which slot it names, or none.
  abbrev Named : ℕ → Type 0
  Named i = NoneOf early × stops (spoilt_record i)

  unnamed : n < 4294967296 → ((i : ℕ) → Named i → ⊥) → Names Named n
  unnamed h f =
      let z = small_high n h in
      record { slot = λ i. (λ e. absurd (omega arith), λ d. absurd (f i d)); none = (λ e. f, λ g. z) }

  named : (t : Trouble) → NoneOf early → stops t → ((u : Trouble) → stops u → t ≡ u) → n ≡ refusal_of t → Names Named n
  named lost_record none p one e = unnamed (omega arith) (λ i d. let z = one (spoilt_record i) d.1 in clash (cc))
  named stray_leaf none p one e = unnamed (omega arith) (λ i d. let z = one (spoilt_record i) d.1 in clash (cc))
  named (spoilt_record i) none p one e =
      let z : high n ≡ i + 1 = ap high e ∙ beside_high i in
      record {
        slot = λ j. (
          λ f. let same : i ≡ j = omega arith in (none, subst (λ m. stops (spoilt_record m)) same p),
          λ d. let same : spoilt_record i ≡ spoilt_record j = one (spoilt_record j) d.1 in let k : i ≡ j = cc in omega arith,
        );
        none = (λ f. absurd (omega arith), λ g. absurd (g i (none, p)));
      }

  pub stopped_names : Names Named n
  stopped_names = go w
    where
      go : Stopped early later stops n → Names Named n
      go (tested f z) = unnamed (first_small early n few f) (λ i d. z (no_first early n d.0 f))
      go (met none t p one e) = named t none p one e
      go (passed none p f) = unnamed (first_small later n more f) (λ i d. p (spoilt_record i) d.1)
