-- Document 01, 'Reading and proving', and 2026-07, over the slots of any store: what stops a read. 'A present child of
-- the second kind now gives 17 and the third stays 3. The first met is given: walk, left descent, right descent.'
use Rattle.std.specs.Prelude.{ℕ, ◌<◌, ◌≤◌, ◌≡◌, ◌⊎◌, true, false, cond, not, List, [], ◌∷◌, ◌++◌, length, get_or, eqb}
use Rattle.std.proofs.Math.Option.{Option, none, some}
use Rattle.terms.specs.Bits.{Bytes, Side, left, right, Place, longer, All, bit, begins, pack}
use Rattle.terms.specs.Heads.{count_in, bits_in, version_in, since_in}
use Rattle.terms.specs.Records.{Child, leaf_body, inner_body, Record, free, spoiled, Store}
use Rattle.meaning.specs.Store.{find, root_of, child_on}
use Rattle.meaning.specs.Reading.{Trouble, lost_record, spoilt_record, stray_leaf}
use Rattle.meaning.specs.Proving.{beyond}

-- The version, bit count and bits fields of a slot's bytes agree with a version and place.
abbrev pub Agrees : ℕ → Place → Bytes → Type 0
Agrees v p x = (version_in x ≡ v) × (count_in x ≡ length p) × (bits_in x ≡ pack 32 p)

-- They agree with a root for a version by empty place and a lifetime that covers it (2026-13).
abbrev pub AgreesRoot : ℕ → Bytes → Type 0
AgreesRoot v x =
    (count_in x ≡ 0) × All (λ b. b ≡ 0) (bits_in x) × (version_in x ≤ v) × ((since_in x ≡ 0) ⊎ (v < since_in x))

-- Slot i is the lowest used slot off form whose bytes agree.
pub record SpoiltIn (st : Store) (agree : Bytes → Type 0) (i : ℕ) : Type 0 where
  pub bytes : Bytes
  pub inside : i < length st.slots
  pub here : get_or st.slots i free ≡ spoiled bytes
  pub agrees : agree bytes
  pub lowest : (j : ℕ) (y : Bytes) → j < i → get_or st.slots j free ≡ spoiled y → agree y → ⊥

-- How a way ends: stopped, at a leaf with this key and value, or at a missing child.
pub data Stop : Type 0 where
  stopped_by : Trouble → Stop
  leaf : Bytes → Bytes → Stop
  missing : Stop

-- What is met where a record is looked for: an end of the way, or a record.
pub data Met : Type 0 where
  stop : Stop → Met
  found : Record → Met

-- The three kinds of 2026-07: a slot in form matches; none does and none off form agrees; slot i off form agrees.
pub data Meets (st : Store) (match : Option Record) (agree : Bytes → Type 0) (end : Stop) : Met → Type 0 where
  first : {r : Record} → match ≡ some r → Meets st match agree end (found r)
  second : match ≡ none → ((i : ℕ) → SpoiltIn st agree i → ⊥) → Meets st match agree end (stop end)
  third : {i : ℕ} → match ≡ none → SpoiltIn st agree i → Meets st match agree end (stop (stopped_by (spoilt_record i)))

-- What is met at the root of version v: none found means an empty version, unless one is spoilt, which stops the read.
abbrev pub AtRoot : Store → ℕ → Met → Type 0
AtRoot st v m = Meets st (root_of st v) (AgreesRoot v) missing m

abbrev pub EmptyVersion : Store → ℕ → Type 0
EmptyVersion st v = AtRoot st v (stop missing)

abbrev pub RootStopped : Store → ℕ → Trouble → Type 0
RootStopped st v t = AtRoot st v (stop (stopped_by t))

-- What is met at the place p for the child c: a missing child, or a present one of the three kinds.
pub data AtChild (st : Store) (p : Place) (c : Child) : Met → Type 0 where
  no_child : c.version ≡ 0 → AtChild st p c (stop missing)
  child : {m : Met} → (c.version ≡ 0 → ⊥) →
      Meets st (find c.version p st.slots) (Agrees c.version p) (stopped_by lost_record) m → AtChild st p c m

-- Which way a descent goes below an inner record: to side b where there is a child, else to the other.
abbrev pub to : Side → Place → Child → Child → Side
to b p l r = cond (eqb (child_on b l r).version 0) (not b) b

-- An inner record that was passed: its place and its children.
pub record Inner : Type 0 where
  pub place : Place
  pub left : Child
  pub right : Child

-- The way from what is met at the place p, before which some inner records were passed, ends so; in the end these have
-- been passed, the deepest first. A found leaf whose key doesn't begin with its place is misplaced.
pub data Way (st : Store) (rule : Place → Child → Child → Side) :
    List Inner → Place → Met → List Inner → Stop → Type 0 where
  ended : {before : List Inner} {p : Place} {end : Stop} → Way st rule before p (stop end) before end
  misplaced : {before : List Inner} {p : Place} {r : Record} (k x : Bytes) → r.body ≡ leaf_body k x →
      begins p k ≡ false → Way st rule before p (found r) before (stopped_by stray_leaf)
  at_leaf_lem : {before : List Inner} {p : Place} {r : Record} (k x : Bytes) → r.body ≡ leaf_body k x →
      begins p k ≡ true → Way st rule before p (found r) before (leaf k x)
  onward : {before : List Inner} {p : Place} {r : Record} (l m : Child) {met : Met} {passed : List Inner} {end : Stop} →
      r.body ≡ inner_body l m → AtChild st (longer (rule p l m) p) (child_on (rule p l m) l m) met →
      Way st rule (record { place = p; left = l; right = m } ∷ before) (longer (rule p l m) p) met passed end →
      Way st rule before p (found r) passed end

-- The walk from the root of version v follows the key's bits; where it is stopped by t, so is a key read.
abbrev pub Walk : Store → ℕ → Bytes → List Inner → Stop → Type 0
Walk st v k passed end = (met : Met) × AtRoot st v met × Way st (λ p l r. bit (length p) k) [] [] met passed end

abbrev pub KeyStopped : Store → ℕ → Bytes → Trouble → Type 0
KeyStopped st v k t = (passed : List Inner) × Walk st v k passed (stopped_by t)

-- Where the walk turned away from side b (or wanted to), and a child is present there.
abbrev pub TurnedAway : Side → Bytes → Inner → Type 0
TurnedAway b k i = (bit (length i.place) k ≡ not b) × ((child_on b i.left i.right).version ≡ 0 → ⊥)

-- The descent to the neighbour on side b is stopped: from the deepest such record into that child, then away from b.
pub record DescentLost (st : Store) (k : Bytes) (passed : List Inner) (b : Side) (t : Trouble) : Type 0 where
  pub deeper : List Inner
  pub at : Inner
  pub above : List Inner
  pub passed_are : passed ≡ deeper ++ at ∷ above
  pub fork : TurnedAway b k at
  pub deepest : All (λ i. TurnedAway b k i → ⊥) deeper
  pub met : Met
  pub child : AtChild st (longer b at.place) (child_on b at.left at.right) met
  pub descended : List Inner
  pub stopped : Way st (to (not b)) [] (longer b at.place) met descended (stopped_by t)

-- Where the walk ends, neither stopped nor at a leaf with the key, the descent to the neighbour on side b is stopped by
-- t; there is none where the leaf at the end is that neighbour.
pub record SideStopped (st : Store) (k : Bytes) (passed : List Inner) (end : Stop) (b : Side) (t : Trouble) :
    Type 0 where
  pub ended : (u : Trouble) → end ≡ stopped_by u → ⊥
  pub absent : (x : Bytes) → end ≡ leaf k x → ⊥
  pub other : (l x : Bytes) → end ≡ leaf l x → beyond b l k ≡ false
  pub descent : DescentLost st k passed b t

-- Proving is stopped by t: the walk's; else, if it doesn't end at the key, the left descent's; else the right one's.
pub data ProofStopped (st : Store) (v : ℕ) (k : Bytes) (t : Trouble) : Type 0 where
  walk-stopped : KeyStopped st v k t → ProofStopped st v k t
  left_stopped : {passed : List Inner} {end : Stop} → Walk st v k passed end → SideStopped st k passed end left t →
      ProofStopped st v k t
  right_stopped : {passed : List Inner} {end : Stop} → Walk st v k passed end →
      ((u : Trouble) → SideStopped st k passed end left u → ⊥) → SideStopped st k passed end right t →
      ProofStopped st v k t

-- The rule of the walk: it follows the key's bits.
abbrev pub by_key : Bytes → Place → Child → Child → Side
by_key k p l r = bit (length p) k
