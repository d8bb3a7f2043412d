-- Document 01, 'Reading and proving', with 2026-03 and 2026-07: a key's neighbours, and its proof, for every store.
use Rattle.std.specs.Prelude.{ℕ, ◌+◌, ◌*◌, ◌≡◌, Bool, true, false, cond, ◌&&◌, not, List, [], ◌∷◌, ◌++◌, map, length, ltb}
use Rattle.std.specs.Bool.{beq}
use Rattle.std.proofs.Math.Option.{Option, none, some}
use Rattle.terms.specs.Bits.{Bytes, Side, left, right, before, same_bytes}
use Rattle.terms.specs.Records.{Store, Step, Presence, Proof, presence, absence}
use Rattle.meaning.specs.Tree.{grants_in}
use Rattle.meaning.specs.Store.{tree_at_version}
use Rattle.meaning.specs.Sight.{Sight, matches, nothing, spoilt, Looking, scan}
use Rattle.meaning.specs.Calls.{Answer, refused, accepted, is_kept}
use Rattle.meaning.specs.Reading.{
  Trouble,
  lost_record,
  refusal_of,
  Seen,
  stopped_by,
  gap,
  leaf_seen,
  fork,
  seen,
  Pass,
  End,
  walk_stopped,
  at_leaf,
  at_gap,
  walk,
}

abbrev pub step : Side → Bytes → Step
step b h = record { side = b; sibling = h }

abbrev pub presence_of : Bytes → Bytes → List Step → Presence
presence_of k x steps = record { key = k; value = x; steps = steps }

abbrev pub absence_of : Bytes → Option Presence → Option Presence → Proof
absence_of k l r = absence (record { key = k; leftward = l; rightward = r })

-- The step up from the child that the walk took, its sibling's hash as stored.
abbrev pub step_up : Pass → Step
step_up p = step p.turn (p.hashes (not p.turn))

abbrev pub is_gap : Seen → Bool
is_gap (stopped_by t) = false
is_gap gap = true
is_gap (leaf_seen k x) = false
is_gap (fork hashes kids) = false

-- A path with more steps above it.
abbrev pub raised : List Step → Presence → Presence
raised steps p = presence_of p.key p.value (p.steps ++ steps)

-- A search that may meet trouble, find nobody, or find a neighbour's presence proof.
pub data Sought : Type 0 where
  search_stopped : Trouble → Sought
  nobody : Sought
  somebody : Presence → Sought

-- A descent meets trouble, or comes to a leaf.
pub data Descended : Type 0 where
  descent_stopped : Trouble → Descended
  reached : Presence → Descended

abbrev pub raised_by : List Step → Descended → Descended
raised_by steps (descent_stopped t) = descent_stopped t
raised_by steps (reached p) = reached (raised steps p)

-- The descent into a child: to side b where there is a child, else to the other; an inner record in form has one.
abbrev pub descend : Side → Seen → Descended
descend b (stopped_by t) = descent_stopped t
descend b gap = descent_stopped lost_record
descend b (leaf_seen k x) = reached (presence_of k x [])
descend b (fork hashes kids) =
    cond (is_gap (kids b))
    (raised_by (step (not b) (hashes b) ∷ []) (descend b (kids (not b))))
    (raised_by (step b (hashes (not b)) ∷ []) (descend b (kids b)))

abbrev pub sought : Descended → Sought
sought (descent_stopped t) = search_stopped t
sought (reached p) = somebody p

-- The walk turned away from side b at this node (or wanted to), and a child is present there.
unfoldable pub turns_away : Side → Pass → Bool
turns_away b p = beq p.turn (not b) && not (is_gap (p.kids b))

-- From the deepest such node into that child, then to the other side where there is a child.
abbrev pub from_trail : Side → List Pass → Sought
from_trail b [] = nobody
from_trail b (p ∷ trail) =
    cond (turns_away b p)
    (sought (raised_by (step b (p.hashes (not b)) ∷ map step_up trail) (descend (not b) (p.kids b))))
    (from_trail b trail)

-- A key on side b of another: smaller on the left, greater on the right.
abbrev pub beyond : Side → Bytes → Bytes → Bool
beyond false l k = before l k
beyond true l k = before k l

-- The neighbour of a key on side b: the leaf at the end, if its key is on that side; else from the trail.
abbrev pub neighbour : Side → Bytes → End → Sought
neighbour b k (walk_stopped t) = search_stopped t
neighbour b k (at_leaf l x trail) =
    cond (beyond b l k) (somebody (presence_of l x (map step_up trail))) (from_trail b trail)
neighbour b k (at_gap trail) = from_trail b trail

-- The proof of absence from what the two searches found, one neighbour at least; the left one's trouble is met first.
abbrev pub absence_from : Bytes → Sought → Sought → Answer Proof
absence_from k (search_stopped t) r = refused (refusal_of t)
absence_from k nobody (search_stopped t) = refused (refusal_of t)
absence_from k nobody nobody = refused 14
absence_from k nobody (somebody q) = accepted (absence_of k none (some q))
absence_from k (somebody p) (search_stopped t) = refused (refusal_of t)
absence_from k (somebody p) nobody = accepted (absence_of k (some p) none)
absence_from k (somebody p) (somebody q) = accepted (absence_of k (some p) (some q))

unfoldable pub absence_at : Bytes → End → Answer Proof
absence_at k e = absence_from k (neighbour left k e) (neighbour right k e)

-- A presence proof if the walk ends at a leaf with the key, else an absence proof.
abbrev pub prove_end : Bytes → End → Answer Proof
prove_end k (walk_stopped t) = refused (refusal_of t)
prove_end k (at_leaf l x trail) =
    cond (same_bytes k l) (accepted (presence (presence_of l x (map step_up trail)))) (absence_at k (at_leaf l x trail))
prove_end k (at_gap trail) = absence_at k (at_gap trail)

unfoldable pub prove_seen : Bytes → Seen → Answer Proof
prove_seen k s = prove_end k (walk k 0 [] s)

-- A version holds a grant: only then is there something to prove (2026-03).
abbrev pub HoldsGrant : Store → ℕ → Type 0
HoldsGrant st v = grants_in (tree_at_version st v) ≡ [] → ⊥

-- No slot that matches a root means an empty version.
abbrev pub empty_version : Sight → Bool
empty_version (matches r) = false
empty_version nothing = true
empty_version (spoilt i) = false

-- The proof for a key in a version: 8, then 14 in an empty version, then the first of 3 and 17 that is met.
abbrev pub proof_by : Looking → Store → ℕ → Bytes → Answer Proof
proof_by look st v k =
    cond (is_kept st v) (cond (empty_version (look.root v)) (refused 14) (prove_seen k (seen look v))) (refused 8)

unfoldable pub proof : Store → ℕ → Bytes → Answer Proof
proof st v k = proof_by (scan st) st v k

-- A presence proof of s steps has 72 + 33 s bytes.
unfoldable pub presence_length : Presence → ℕ
presence_length p = 72 + 33 * length p.steps

abbrev pub neighbour_length : Option Presence → ℕ
neighbour_length none = 0
neighbour_length (some p) = presence_length p

-- The length of a proof in bytes.
abbrev pub proof_length : Proof → ℕ
proof_length (presence p) = presence_length p
proof_length (absence a) = 40 + neighbour_length a.leftward + neighbour_length a.rightward

-- 9 if the proof is longer than the room.
abbrev pub fitted : ℕ → Answer Proof → Answer Proof
fitted room (refused n) = refused n
fitted room (accepted p) = cond (ltb room (proof_length p)) (refused 9) (accepted p)

-- Proving into a buffer of `room` bytes: 8, 14, 3 or 17, 9.
abbrev pub prove_by : Looking → Store → ℕ → Bytes → ℕ → Answer Proof
prove_by look st v k room = fitted room (proof_by look st v k)

unfoldable pub prove : Store → ℕ → Bytes → ℕ → Answer Proof
prove st v k room = fitted room (proof st v k)
