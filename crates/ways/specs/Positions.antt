-- Document 02, 2026-09, over the slots of any store: how many grants a version has, and which one a position has.
use Rattle.std.specs.Prelude.{ℕ, ◌+◌, ◌-◌, ◌<◌, ◌≤◌, ◌≡◌, ◌⊎◌, true, false, []}
use Rattle.terms.specs.Bits.{Bytes, Side, left, right, Place, longer, begins}
use Rattle.terms.specs.Records.{Grant, grant, Child, leaf_body, inner_body, Record, Store}
use Rattle.meaning.specs.Store.{child_on}
use Rattle.meaning.specs.Calls.{Answer, refused, accepted}
use Rattle.meaning.specs.Reading.{Trouble, refusal_of}
use Rattle.ways.specs.Ways.{stopped_by, missing, Met, stop, found, AtRoot, AtChild}

-- By a record's counts position i goes to side b, and is position j there.
pub data Turn (r : Record) (i : ℕ) : Side → ℕ → Type 0 where
  to_left : i < r.counts.leftward → Turn r i left i
  to_right : r.counts.leftward ≤ i → Turn r i right (i - r.counts.leftward)

-- The descent from what is met at p with position i ends so: 3 also at a missing child, or with a position left over.
pub data Lands (st : Store) : Place → Met → ℕ → Answer Grant → Type 0 where
  no_child : {p : Place} {i : ℕ} → Lands st p (stop missing) i (refused 3)
  stopped : {p : Place} {i : ℕ} {t : Trouble} → Lands st p (stop (stopped_by t)) i (refused (refusal_of t))
  not_there : {p : Place} {r : Record} {i : ℕ} (k x : Bytes) → r.body ≡ leaf_body k x →
      (begins p k ≡ false) ⊎ (1 ≤ i) → Lands st p (found r) i (refused 3)
  at_leaf_lem : {p : Place} {r : Record} {i : ℕ} (k x : Bytes) → r.body ≡ leaf_body k x → begins p k ≡ true → i ≡ 0 →
      Lands st p (found r) i (accepted (grant k x))
  onward : {p : Place} {r : Record} {i : ℕ} (l m : Child) (b : Side) (j : ℕ) {met : Met} {a : Answer Grant} →
      r.body ≡ inner_body l m → Turn r i b j → AtChild st (longer b p) (child_on b l m) met →
      Lands st (longer b p) met j a → Lands st p (found r) i a

-- How many leaves a record says that it has.
pub data Says (r : Record) : ℕ → Type 0 where
  one_leaf : (k x : Bytes) → r.body ≡ leaf_body k x → Says r 1
  two_counts : (l m : Child) → r.body ≡ inner_body l m → Says r (r.counts.leftward + r.counts.rightward)

-- The number of a kept version.
pub data Number (st : Store) (v : ℕ) : Answer ℕ → Type 0 where
  no_root_lem : AtRoot st v (stop missing) → Number st v (accepted 0)
  root_lost : {t : Trouble} → AtRoot st v (stop (stopped_by t)) → Number st v (refused (refusal_of t))
  of_root : {r : Record} {n : ℕ} → AtRoot st v (found r) → Says r n → Number st v (accepted n)

-- The grant at position i of a kept version, and what stops its read.
pub data Position (st : Store) (v i : ℕ) : Answer Grant → Type 0 where
  root_lost : {t : Trouble} → AtRoot st v (stop (stopped_by t)) → Position st v i (refused (refusal_of t))
  not_below : (n : ℕ) → Number st v (accepted n) → n ≤ i → Position st v i (refused 20)
  from_root : {r : Record} {n : ℕ} {a : Answer Grant} → AtRoot st v (found r) → Says r n → i < n →
      Lands st [] (found r) i a → Position st v i a

abbrev pub PositionStopped : Store → ℕ → ℕ → Trouble → Type 0
PositionStopped st v i t = Position st v i (refused (refusal_of t))
