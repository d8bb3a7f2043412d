-- The search for a neighbour at one node: what is found below it, or by a turn there, or above it. So a search from a trail is a search from
-- the node, and what it finds is raised by the trail. Assumes nothing.
use Prim.Native.Nat.{ℕ, suc}
use mathlib.Core.Path.{◌≡◌, refl, ap, sym, ◌∙◌}
use mathlib.Core.Bool.{Bool, true, false, cond, not}
use mathlib.Core.List.{List, [], ◌∷◌, map, append_assoc}
use mathlib.Core.Option.{Option, none, some}
use Rattle.terms.specs.Bits.{Bytes, Side, bit}
use Rattle.terms.specs.Records.{Step, Presence}
use Rattle.meaning.specs.Tree.{Tree, hash}
use Rattle.meaning.specs.Reading.{Seen, stopped_by, gap, leaf_seen, fork, Pass, walk}
use Rattle.meaning.specs.Proving.{step, presence_of, step_up, raised, Descended, descent_stopped, reached, raised_by, descend, Sought, search_stopped, nobody, somebody, sought, turns_away, from_trail, beyond, neighbour}
use Rattle.shown.proofs.Views.{on_side, not_not, occupied, viewed, passing, gap_or_node}

-- Where the first search finds nobody, the second.
abbrev pub or_else : Sought → Sought → Sought
or_else (search_stopped t) y = search_stopped t
or_else nobody y = y
or_else (somebody p) y = somebody p

-- What a search found, with more steps above it.
abbrev pub sought_below : List Step → Sought → Sought
sought_below steps (search_stopped t) = search_stopped t
sought_below steps nobody = nobody
sought_below steps (somebody p) = somebody (raised steps p)

pub raised_twice : (s : Step) (steps : List Step) (p : Presence) → raised (s ∷ steps) p ≡ raised steps (raised (s ∷ []) p)
raised_twice s steps p = ap (presence_of p.key p.value) (sym (append_assoc p.steps (s ∷ []) steps))

at_node_lem : (s u : Step) (steps : List Step) (below : Sought) (turn : Descended) (above : Sought) (away : Bool) →
    or_else (sought_below (s ∷ steps) below) (cond away (sought (raised_by (u ∷ steps) turn)) above)
    ≡ or_else (sought_below steps (or_else (sought_below (s ∷ []) below) (cond away (sought (raised_by (u ∷ []) turn)) nobody))) above
at_node_lem s u steps (search_stopped t) turn above away = refl
at_node_lem s u steps nobody turn above false = refl
at_node_lem s u steps nobody (descent_stopped t) above true = refl
at_node_lem s u steps nobody (reached p) above true = ap somebody (raised_twice u steps p)
at_node_lem s u steps (somebody p) turn above away = ap somebody (raised_twice s steps p)

at_leaf_lem : (l x : Bytes) (steps : List Step) (above : Sought) (on_side_lem : Bool) →
    cond on_side_lem (somebody (presence_of l x steps)) above
    ≡ or_else (sought_below steps (cond on_side_lem (somebody (presence_of l x [])) nobody)) above
at_leaf_lem l x steps above true = refl
at_leaf_lem l x steps above false = refl

-- The neighbour of k on side b, of a walk that starts at bit i.
abbrev pub neighbour_below : Side → Bytes → ℕ → Seen → Sought
neighbour_below b k i s = neighbour b k (walk k i [] s)

pub neighbour_from_trail : (b : Side) (k : Bytes) (i : ℕ) (trail : List Pass) (s : Seen) →
    neighbour b k (walk k i trail s) ≡ or_else (sought_below (map step_up trail) (neighbour_below b k i s)) (from_trail b trail)
neighbour_from_trail b k i trail (stopped_by t) = refl
neighbour_from_trail b k i trail gap = refl
neighbour_from_trail b k i trail (leaf_seen l x) = at_leaf_lem l x (map step_up trail) (from_trail b trail) (beyond b l k)
neighbour_from_trail b k i trail (fork hashes kids) =
    let p : Pass = record { turn = bit i k; hashes = hashes; kids = kids } in
    neighbour_from_trail b k (suc i) (p ∷ trail) (kids (bit i k))
    ∙ at_node_lem (step_up p) (step b (hashes (not b))) (map step_up trail) (neighbour_below b k (suc i) (kids (bit i k)))
    (descend (not b) (kids b)) (from_trail b trail) (turns_away b p)
    ∙ ap (λ x. or_else (sought_below (map step_up trail) x) (from_trail b trail))
    (sym (neighbour_from_trail b k (suc i) (p ∷ []) (kids (bit i k))))

module _ (leaf_hash inner_hash : Bytes → Bytes → Bytes) where
  -- at an inner node the walk does not turn away from its own side
  pub no_turn : (b : Side) (l r : Tree) → from_trail b (passing leaf_hash inner_hash b l r ∷ []) ≡ nobody
  unfolding turns_away
  no_turn false l r = refl
  no_turn true l r = refl

  -- it turns away from the other, if there is a child
  pub turn : (b : Side) (l r : Tree) (there : Bool) → occupied (on_side l r (not b)) ≡ there →
      from_trail (not b) (passing leaf_hash inner_hash b l r ∷ [])
      ≡ cond there (sought (raised_by (step (not b) (hash leaf_hash inner_hash (on_side l r b)) ∷ [])
      (descend b (viewed leaf_hash inner_hash (on_side l r (not b)))))) nobody
  unfolding turns_away
  turn false l r there e = rw (gap_or_node leaf_hash inner_hash r, e, not_not there)
  turn true l r there e = rw (gap_or_node leaf_hash inner_hash l, e, not_not there)
