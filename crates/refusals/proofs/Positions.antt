-- Rows 8, 20, 17 and 3 of the two reads by counts, document 02, 2026-09: the number is refused as the root is, and a position by the first that
-- its descent meets. Assumes nothing.
use Prim.Native.Nat.{ℕ}
use native.Mathlib.Omega.{arith}
use mathlib.Core.Path.{◌≡◌, refl, ap, sym, ◌∙◌, subst}
use mathlib.Core.Logic.{◌⊎◌, inl, inr}
use mathlib.Core.Bool.{Bool, true, false, cond}
use mathlib.Core.List.{[]}
use lib.ListN.{drop}
use Rattle.terms.specs.Bits.{Bytes, Place}
use Rattle.terms.specs.Records.{Grant, Store}
use Rattle.meaning.specs.Sight.{Sight, matches, nothing, spoilt, root_sight, scan}
use Rattle.meaning.specs.Calls.{Answer, refused, accepted, is_kept}
use Rattle.meaning.specs.Answers.{number_of}
use Rattle.meaning.specs.Reading.{Trouble, lost_record, spoilt_record, stray_leaf, beside, refusal_of, root_read, read_root}
use Rattle.meaning.specs.Counting.{number_at, read_number, position_at, read_position}
use Rattle.ways.specs.Ways.{Met, RootStopped}
use Rattle.ways.specs.Positions as words
use Rattle.ways.specs.Positions.{Lands, not_there, at_leaf_lem, no_child, stopped, onward, Position, not_below, PositionStopped}
use Rattle.ways.proofs.Walking.{Formed}
use Rattle.ways.proofs.Positions.{position_exactly}
use Rattle.layout.specs.Stores.{store_of}
use Rattle.refusals.specs.Exactly.{Table}
use Rattle.refusals.specs.Tables.{at_rows}
use Rattle.refusals.proofs.Parts.{Row, NotKept, version_rows, placing_rows}
use Rattle.refusals.proofs.Exactly.{First}
use Rattle.refusals.proofs.Stopped.{Stopped, tested, met, passed}
use Rattle.refusals.proofs.Walks.{clash, kept_said, not_kept, one_refusal, root_stopped}

-- Where two neighbouring rows are deserved at once, the answer is the number of the one that is tested first.
module _ (s : Bytes) (v i : ℕ) where
  abbrev rows : Table
  rows = drop 2 (at_rows s v i)

  eight_before_twenty : Row 8 rows → Row 20 rows → First rows 8
  eight_before_twenty a b = inl (a, refl)

  twenty_before_three : (Row 8 rows → ⊥) → Row 20 rows → Row 3 rows → First rows 20
  twenty_before_three kept a b = inr (kept, inl (a, refl))

-- the number is refused as the root is
module _ (leaf_hash inner_hash : Bytes → Bytes → Bytes) (s : Bytes) (v : ℕ) where
  same_number : number_of (read_root leaf_hash inner_hash (store_of s) v) ≡ number_of (read_number (store_of s) v)
  unfolding read_root read_number
  same_number = go (is_kept (store_of s) v) (root_sight (store_of s) v)
    where
      go : (b : Bool) (x : Sight) → number_of (cond b (root_read leaf_hash inner_hash x) (refused 8)) ≡ number_of (cond b (number_at x) (refused 8))
      go false x = refl
      go true (matches r) = refl
      go true nothing = refl
      go true (spoilt i) = refl

  pub number_stopped : Stopped (version_rows s v) [] (RootStopped (store_of s) v) (number_of (read_number (store_of s) v))
  number_stopped = subst (Stopped (version_rows s v) [] (RootStopped (store_of s) v)) same_number (root_stopped leaf_hash inner_hash s v)

-- what a refused descent met
lands_refused : {st : Store} {p : Place} {m : Met} {i : ℕ} {a : Answer Grant} (n : ℕ) → Lands st p m i a → a ≡ refused n →
    (t : Trouble) × (n ≡ refusal_of t)
lands_refused n (not_there k x e f) g = (stray_leaf, cc)
lands_refused n (at_leaf_lem k x e f z) g = clash (cc)
lands_refused n no_child g = (stray_leaf, cc)
lands_refused n (stopped {t = t}) g = (t, cc)
lands_refused n (onward l m b j e t c w) g = lands_refused n w g

position_refused : {st : Store} {v i : ℕ} {a : Answer Grant} (n : ℕ) → Position st v i a → a ≡ refused n →
    (n ≡ 20) ⊎ ((t : Trouble) × (n ≡ refusal_of t))
position_refused n (words.root_lost {t = t} w) g = inr (t, cc)
position_refused n (not_below m w l) g = inl (cc)
position_refused n (words.from_root w s l d) g = inr (lands_refused n d g)

-- the number isn't above the position
abbrev Past : Bytes → ℕ → ℕ → Type 0
Past s v i = Row 20 (at_rows s v i)

not_twenty : (t : Trouble) → refusal_of t ≡ 20 → ⊥
unfolding beside
not_twenty lost_record e = omega arith
not_twenty (spoilt_record i) e = omega arith
not_twenty stray_leaf e = omega arith

module _ (s : Bytes) (formed : Formed (store_of s)) (v i : ℕ) where
  read : Answer Grant
  read = position_at (scan (store_of s)) ((scan (store_of s)).root v) i

  past_is : Past s v i → read ≡ refused 20
  unfolding read
  past_is (n, w, l) = (position_exactly (store_of s) formed v i (refused 20)).1 (not_below n w l)

  stop_is : (t : Trouble) → PositionStopped (store_of s) v i t → read ≡ refused (refusal_of t)
  unfolding read
  stop_is t p = (position_exactly (store_of s) formed v i (refused (refusal_of t))).1 p

  said : (a : Answer Grant) → read ≡ a → Position (store_of s) v i a
  unfolding read
  said a e = (position_exactly (store_of s) formed v i a).0 e

  past_said : Position (store_of s) v i (refused 20) → Past s v i
  past_said w = go w refl
    where
      go : {a : Answer Grant} → Position (store_of s) v i a → a ≡ refused 20 → Past s v i
      go (not_below n w l) e = (n, w, l)
      go (words.root_lost {t = t} w) e = absurd (not_twenty t (cc))
      go (words.from_root w g l d) e = let (t, h) = lands_refused 20 d e in absurd (not_twenty t (sym h))

  stopped_by_lem : (is_kept (store_of s) v ≡ true) → (a : Answer Grant) → read ≡ a → Stopped (placing_rows s v i) [] (PositionStopped (store_of s) v i) (number_of a)
  stopped_by_lem kept (accepted g) e =
      passed (not_8, (λ p. let z = sym e ∙ past_is p in clash (cc), tt)) (λ t p. let z = sym e ∙ stop_is t p in clash (cc)) refl
    where
      not_8 : NotKept s v → ⊥
      not_8 n = n (kept_said (store_of s) v kept)
  stopped_by_lem kept (refused n) e = go (position_refused n (said (refused n) e) refl)
    where
      not_8 : NotKept s v → ⊥
      not_8 m = m (kept_said (store_of s) v kept)

      go : (n ≡ 20) ⊎ ((t : Trouble) × (n ≡ refusal_of t)) → Stopped (placing_rows s v i) [] (PositionStopped (store_of s) v i) n
      go (inl z) =
          tested (inr (not_8, inl (past_said (said (refused 20) (e ∙ ap refused z)), z))) (λ q. absurd (omega arith))
      go (inr (t, z)) =
          let f : read ≡ refused (refusal_of t) = e ∙ ap refused z in
          met (not_8, (λ p. not_twenty t (let g = sym f ∙ past_is p in cc), tt)) t (said (refused (refusal_of t)) f)
          (λ u p. one_refusal t u f (stop_is u p)) z

  pub position_stopped : Stopped (placing_rows s v i) [] (PositionStopped (store_of s) v i) (number_of (read_position (store_of s) v i))
  unfolding read_position read
  position_stopped = go (is_kept (store_of s) v) refl
    where
      go : (b : Bool) → is_kept (store_of s) v ≡ b → Stopped (placing_rows s v i) [] (PositionStopped (store_of s) v i) (number_of (cond b read (refused 8)))
      go true e = stopped_by_lem e read refl
      go false e = tested (inl (not_kept s v e, refl)) (λ z. absurd (omega arith))
