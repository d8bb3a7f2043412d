-- Document 01, 'Reading and proving', the neighbours: what a search from a trail in lent memory finds. Assumes nothing.
use Rattle.std.specs.Prelude.{ℕ, ◌≡◌, cond, List}
use Rattle.terms.specs.declared.Form.TheVariants.{Counted as counted}
use Rattle.terms.specs.Bits.{Bytes, Side}
use Rattle.meaning.specs.Proving.{raised_by, descend, Sought, somebody, sought, beyond}
use Rattle.layout.specs.Slots.{key_in}
use Rattle.layout.specs.Stores.{slot_in}
use Rattle.read_step.specs.declared.Seen as declared-seen
use Rattle.read_step.specs.declared.Seen.TheVariants.{Gap, Stopped, Leaf, Inner}
use Rattle.prove_paths.specs.declared.Path as declared-path
use Rattle.prove_paths.specs.declared.Way as declared-way
use Rattle.prove_paths.specs.declared.Sought as declared-sought
use Rattle.prove_paths.specs.Paths.{presence_at}
use Rattle.prove_paths.specs.Neighbours.{sought_at, NeighbourIn}
use Rattle.prove_trails.specs.Trails.{shown_by, steps_by, TrailIn, ForkIn, fork_on, fork_says}
use Rattle.prove_trails.specs.declared.Trail as declared
use Rattle.prove_trails.specs.declared.Walked as declared-walked

-- The path of a trail that ends in slot i, and a search's answer with it.
abbrev pub path_of : declared.Trail → ℕ → declared-path.Path
path_of t i = record { slots = t.slots; place = t.place; at = i }

abbrev pub sought_of : declared.Trail → declared-way.Way → ℕ → declared-sought.Sought
sought_of t w i = record { way = w; path = path_of t i }

-- A search's answer says what is sought, and the path of somebody lies within the store.
pub record Finds (s : Bytes) (x : Sought) (r : declared-sought.Sought) : Type 0 where
  pub says : sought_at s r ≡ x
  pub within : NeighbourIn s r

-- What the descent to side b finds from the end of a trail.
unfoldable pub descent_says : Bytes → List ℕ → declared.Trail → Side → Sought
descent_says s table t b = sought (raised_by (steps_by s t) (descend b (shown_by s table t)))

-- A walk that has ended, within the store.
pub record WalkedIn (s : Bytes) (w : declared-walked.Walked) : Type 0 where
  pub trail : TrailIn s w.trail
  pub fork : (b : Side) → ForkIn w.trail.place.count (fork_on b w.left w.right)

-- The leaf at the end, if its key is on side b; else what is found from the trail.
abbrev pub end_says : Bytes → Bytes → declared.Trail → Side → declared-seen.Seen → Sought → Sought
end_says s k t b Gap x = x
end_says s k t b (Stopped u) x = x
end_says s k t b (Leaf i) x =
    cond (beyond b (key_in (slot_in counted i s)) k) (somebody (presence_at s (path_of t i))) x
end_says s k t b (Inner i) x = x

-- The neighbour of key k on side b where a walk has ended.
unfoldable pub neighbour_says : Bytes → List ℕ → Bytes → declared-walked.Walked → Side → Sought
neighbour_says s table k w b =
    end_says s k w.trail b w.trail.seen (fork_says s table w.trail.slots b (fork_on b w.left w.right))
