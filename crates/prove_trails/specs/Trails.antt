-- Document 01, 'Reading and proving': the trail of a walk in lent memory, which finds by a table of slot numbers
-- (2026-05), and where its forks lead to a neighbour. Assumes nothing.
use Rattle.std.specs.Prelude.{ℕ, ◌-◌, ◌<◌, ◌≡◌, true, false, not, List, [], ◌∷◌, map, length, get_or, set, Some, None}
use Rattle.std.specs.declared.option.Option as option
use Rattle.terms.specs.declared.Form.TheVariants.{Counted as counted}
use Rattle.terms.specs.Bits.{Bytes, Side, Place, longer}
use Rattle.terms.specs.Records.{Step}
use Rattle.meaning.specs.Reading.{Seen, stopped_by, gap, seen_at, seen, Pass, walk}
use Rattle.meaning.specs.Proving.{step_up, raised_by, descend, Sought, nobody, sought, from_trail}
use Rattle.indexed.specs.Index.{by_table}
use Rattle.layout.specs.Sizes.{room_of}
use Rattle.layout.specs.Headers.{size_right}
use Rattle.layout.specs.Stores.{store_of}
use Rattle.place.specs.Place.{place_of, Proper, Grown}
use Rattle.place.specs.declared.Place as declared-place
use Rattle.read_step.specs.Walk.{trouble_says, kid_in, seen_below, leaf_at, fork_at}
use Rattle.read_step.specs.declared.Seen as declared-seen
use Rattle.read_step.specs.declared.Seen.TheVariants.{Gap, Stopped, Leaf, Inner}
use Rattle.prove_paths.specs.Paths.{step_at, steps_of}
use Rattle.prove_trails.specs.declared.Trail as declared
use Rattle.prove_trails.specs.declared.Walked as declared-walked

-- What each case of an answer says is seen at a place.
abbrev pub shown_at : Bytes → List ℕ → Place → declared-seen.Seen → Seen
shown_at s table p Gap = gap
shown_at s table p (Stopped t) = stopped_by (trouble_says t)
shown_at s table p (Leaf i) = leaf_at i s
shown_at s table p (Inner i) = fork_at i s table p

-- A slot that is seen is one of the store's, and an inner node's place is shorter than a key.
abbrev pub SeenIn : Bytes → Place → declared-seen.Seen → Type 0
SeenIn s p Gap = Unit {0}
SeenIn s p (Stopped t) = Unit {0}
SeenIn s p (Leaf i) = i < room_of counted (length s)
SeenIn s p (Inner i) = (i < room_of counted (length s)) × (length p < 256)

-- What is seen at the end of a trail, and the steps from there upwards.
unfoldable pub shown_by : Bytes → List ℕ → declared.Trail → Seen
shown_by s table t = shown_at s table (place_of t.place) t.seen

unfoldable pub steps_by : Bytes → declared.Trail → List Step
steps_by s t = steps_of s t.slots (place_of t.place) t.place.count

-- A trail within a store: its place is proper and each slot on it is one of the store's.
pub record TrailIn (s : Bytes) (t : declared.Trail) : Type 0 where
  pub size : size_right counted (length s) ≡ true
  pub proper : Proper t.place
  pub long : length t.slots ≡ 256
  pub above : (j : ℕ) → j < t.place.count → get_or t.slots j 0 < room_of counted (length s)
  pub seen : SeenIn s (place_of t.place) t.seen

-- A trail that goes on at the inner node in slot i.
pub record AtInner (s : Bytes) (t : declared.Trail) (i : ℕ) : Type 0 where
  pub size : size_right counted (length s) ≡ true
  pub proper : Proper t.place
  pub long : length t.slots ≡ 256
  pub above : (j : ℕ) → j < t.place.count → get_or t.slots j 0 < room_of counted (length s)
  pub inside : i < room_of counted (length s)
  pub short : t.place.count < 256

-- The trail at the root of a version.
pub record Started (s : Bytes) (table : List ℕ) (v : ℕ) (r : declared.Trail) : Type 0 where
  pub trail : TrailIn s r
  pub count : r.place.count ≡ 0
  pub shown : shown_by s table r ≡ seen (by_table table (store_of s)) v

-- The trail r is t, one inner node further, that in slot i, to side b.
pub record Further (s : Bytes) (table : List ℕ) (t : declared.Trail) (i : ℕ) (b : Side) (r : declared.Trail) :
    Type 0 where
  pub trail : TrailIn s r
  pub place : Grown b t.place r.place
  pub slots : r.slots ≡ set t.slots t.place.count i
  pub shown : shown_by s table r ≡ seen_below s table (place_of r.place) (kid_in i s b)

-- What is found from the inner node at place p into its child on side b, then to the other side where there is a child.
unfoldable pub sideways : Bytes → List ℕ → List ℕ → Side → declared-place.Place → Sought
sideways s table slots b p =
    sought
    (raised_by (step_at s (get_or slots p.count 0) b ∷ steps_of s slots (place_of p) p.count)
    (descend (not b) (seen_at (255 - length (place_of p)) (by_table table (store_of s)) (longer b (place_of p))
    (kid_in (get_or slots p.count 0) s b))))

abbrev pub fork_says : Bytes → List ℕ → List ℕ → Side → option.Option declared-place.Place → Sought
fork_says s table slots b (Some p) = sideways s table slots b p
fork_says s table slots b None = nobody

-- A fork lies above depth n.
abbrev pub ForkIn : ℕ → option.Option declared-place.Place → Type 0
ForkIn n (Some p) = Proper p × (p.count < n)
ForkIn n None = Unit {0}

-- The fork towards a side.
abbrev pub fork_on : Side → option.Option declared-place.Place → option.Option declared-place.Place →
    option.Option declared-place.Place
fork_on false l r = l
fork_on true l r = r

-- The walk by key k in version v goes on from the end of trail t, with the inner nodes passed: their steps are the
-- trail's, and what is found from them is what the forks l and r say.
pub record Walking (s : Bytes) (table : List ℕ) (v : ℕ) (k : Bytes) (t : declared.Trail)
    (l r : option.Option declared-place.Place) : Type 0 where
  pub trail : TrailIn s t
  pub fork : (b : Side) → ForkIn t.place.count (fork_on b l r)
  pub passes : List Pass
  pub walked : walk k 0 [] (seen (by_table table (store_of s)) v) ≡ walk k t.place.count passes (shown_by s table t)
  pub steps : map step_up passes ≡ steps_by s t
  pub found : (b : Side) → from_trail b passes ≡ fork_says s table t.slots b (fork_on b l r)

-- The walk has ended: not at an inner node.
pub record Walks (s : Bytes) (table : List ℕ) (v : ℕ) (k : Bytes) (w : declared-walked.Walked) : Type 0 where
  pub walking : Walking s table v k w.trail w.left w.right
  pub ended : (i : ℕ) → w.trail.seen ≡ Inner i → ⊥
