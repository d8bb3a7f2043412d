-- On any store, sound or not, no path that the prover gives has more than 256 steps: what a read sees has no leaf more than 256 steps down.
-- Assumes nothing.
use Prim.Native.Nat.{ℕ, zero, suc, ◌+◌, ◌<◌, ◌≤◌}
use native.Mathlib.Omega.{arith}
use mathlib.Core.Path.{◌≡◌, sym, subst}
use mathlib.Core.Bool.{Bool, true, false, cond, not}
use mathlib.Core.List.{List, [], ◌∷◌, ◌++◌, map}
use mathlib.Core.Option.{Option, none, some}
use lib.ListN.{length, length-append}
use lib.Dec.{eqb}
use Rattle.terms.specs.Bits.{Bytes, Side, left, right, Place, longer, All, bit, begins, same_bytes}
use Rattle.terms.specs.Records.{Child, Body, leaf_body, inner_body, Store, Step, Presence, Proof, presence, absence}
use Rattle.terms.proofs.Lists.{all_map}
use Rattle.meaning.specs.Store.{child_on}
use Rattle.meaning.specs.Sight.{Sight, matches, nothing, spoilt, Looking, scan}
use Rattle.meaning.specs.Calls.{Answer, refused, accepted, is_kept}
use Rattle.meaning.specs.Reading.{lost_record, stray_leaf, Seen, stopped_by, gap, leaf_seen, fork, seen_body, seen_child, seen_at, seen_root, seen, Pass, End, walk_stopped, at_leaf, at_gap, walk}
use Rattle.meaning.specs.Proving.{step, presence_of, step_up, is_gap, Descended, descent_stopped, reached, raised_by, descend, Sought, search_stopped, nobody, somebody, sought, turns_away, from_trail, beyond, neighbour, absence_from, absence_at, prove_end, prove_seen, proof, presence_length, neighbour_length, proof_length}
use Rattle.meaning.proofs.Empty.{proof_by_searches}
use Rattle.shown.proofs.Searches.{or_else, sought_below, neighbour_below, neighbour_from_trail}

-- Each leaf that is seen is less than n steps down.
abbrev Depth : ℕ → Seen → Type 0
Depth n (stopped_by t) = Unit {0}
Depth n gap = Unit {0}
Depth zero (leaf_seen k x) = ⊥
Depth (suc n) (leaf_seen k x) = Unit {0}
Depth zero (fork hashes kids) = ⊥
Depth (suc n) (fork hashes kids) = (b : Side) → Depth n (kids b)

body_depth : (n : ℕ) (p : Place) (b : Body) (kid : Side → Child → Seen) → ((c : Side) (d : Child) → Depth n (kid c d)) →
    Depth (suc n) (seen_body p b kid)
body_depth n p (leaf_body k x) kid h = go (begins p k)
  where
    go : (b : Bool) → Depth (suc n) (cond b (leaf_seen k x) (stopped_by stray_leaf))
    go true = tt
    go false = tt
body_depth n p (inner_body l r) kid h = λ b. h b (child_on b l r)

child_depth : (n v : ℕ) (p : Place) (o : Sight) (kid : Side → Child → Seen) → ((c : Side) (d : Child) → Depth n (kid c d)) →
    Depth (suc n) (cond (eqb v 0) gap (seen_child p o kid))
child_depth n v p o kid h = go (eqb v 0) o
  where
    go : (b : Bool) (o : Sight) → Depth (suc n) (cond b gap (seen_child p o kid))
    go true o = tt
    go false nothing = tt
    go false (spoilt i) = tt
    go false (matches r) = body_depth n p r.body kid h

seen_depth : (n : ℕ) (s : Looking) (p : Place) (c : Child) → Depth (suc n) (seen_at n s p c)
seen_depth zero s p c = child_depth zero c.version p (s.node c.version p) (λ b d. stopped_by lost_record) (λ b d. tt)
seen_depth (suc n) s p c =
    child_depth (suc n) c.version p (s.node c.version p) (λ b d. seen_at n s (longer b p) d) (λ b d. seen_depth n s (longer b p) d)

root_depth : (n : ℕ) (s : Looking) (o : Sight) → Depth (suc (suc n)) (seen_root o (λ b d. seen_at n s (b ∷ []) d))
root_depth n s nothing = tt
root_depth n s (spoilt i) = tt
root_depth n s (matches r) = body_depth (suc n) [] r.body (λ b d. seen_at n s (b ∷ []) d) (λ b d. seen_depth n s (b ∷ []) d)

-- A path of less than n steps.
abbrev Short : ℕ → Presence → Type 0
Short n p = length p.steps < n

abbrev ShortIf : ℕ → Descended → Type 0
ShortIf n (descent_stopped t) = Unit {0}
ShortIf n (reached p) = Short n p

raised_short : (n : ℕ) (s : Step) (o : Descended) → ShortIf n o → ShortIf (suc n) (raised_by (s ∷ []) o)
raised_short n s (descent_stopped t) h = tt
raised_short n s (reached p) h = simp length-append (omega arith)

either_short : (n : ℕ) (b : Bool) (o q : Descended) → ShortIf n o → ShortIf n q → ShortIf n (cond b o q)
either_short n true o q h g = h
either_short n false o q h g = g

-- the descent
descent_short : (n : ℕ) (b : Side) (s : Seen) → Depth n s → ShortIf n (descend b s)
descent_short n b (stopped_by t) h = tt
descent_short n b gap h = tt
descent_short zero b (leaf_seen k x) h = absurd h
descent_short (suc n) b (leaf_seen k x) h = omega arith
descent_short zero b (fork hashes kids) h = absurd h
descent_short (suc n) b (fork hashes kids) h =
    either_short (suc n) (is_gap (kids b)) (raised_by (step (not b) (hashes b) ∷ []) (descend b (kids (not b))))
    (raised_by (step b (hashes (not b)) ∷ []) (descend b (kids b)))
    (raised_short n (step (not b) (hashes b)) (descend b (kids (not b))) (descent_short n b (kids (not b)) (h (not b))))
    (raised_short n (step b (hashes (not b))) (descend b (kids b)) (descent_short n b (kids b) (h b)))

-- the searches
abbrev ShortFound : ℕ → Sought → Type 0
ShortFound n (search_stopped t) = Unit {0}
ShortFound n nobody = Unit {0}
ShortFound n (somebody p) = Short n p

below_short : (n : ℕ) (s : Step) (x : Sought) → ShortFound n x → ShortFound (suc n) (sought_below (s ∷ []) x)
below_short n s (search_stopped t) h = tt
below_short n s nobody h = tt
below_short n s (somebody p) h = simp length-append (omega arith)

or_short : (n : ℕ) (x y : Sought) → ShortFound n x → ShortFound n y → ShortFound n (or_else x y)
or_short n (search_stopped t) y h g = tt
or_short n nobody y h g = g
or_short n (somebody p) y h g = h

turn_short : (n : ℕ) (b : Side) (p : Pass) → ((c : Side) → Depth n (p.kids c)) → ShortFound (suc n) (from_trail b (p ∷ []))
turn_short n b p h = go (turns_away b p) (descend (not b) (p.kids b)) (descent_short n (not b) (p.kids b) (h b))
  where
    go : (away : Bool) (o : Descended) → ShortIf n o →
        ShortFound (suc n) (cond away (sought (raised_by (step b (p.hashes (not b)) ∷ []) o)) nobody)
    go false o g = tt
    go true (descent_stopped t) g = tt
    go true (reached q) g = simp length-append (omega arith)

neighbour_short : (n : ℕ) (b : Side) (k : Bytes) (i : ℕ) (s : Seen) → Depth n s → ShortFound n (neighbour_below b k i s)
neighbour_short n b k i (stopped_by t) h = tt
neighbour_short n b k i gap h = tt
neighbour_short zero b k i (leaf_seen l x) h = absurd h
neighbour_short (suc n) b k i (leaf_seen l x) h = go (beyond b l k)
  where
    go : (c : Bool) → ShortFound (suc n) (cond c (somebody (presence_of l x [])) nobody)
    go true = omega arith
    go false = tt
neighbour_short zero b k i (fork hashes kids) h = absurd h
neighbour_short (suc n) b k i (fork hashes kids) h =
    let p : Pass = record { turn = bit i k; hashes = hashes; kids = kids } in
    rw (neighbour_from_trail b k (suc i) (p ∷ []) (kids (bit i k)))
    (or_short (suc n) (sought_below (step_up p ∷ []) (neighbour_below b k (suc i) (kids (bit i k)))) (from_trail b (p ∷ []))
    (below_short n (step_up p) (neighbour_below b k (suc i) (kids (bit i k)))
    (neighbour_short n b k (suc i) (kids (bit i k)) (h (bit i k)))) (turn_short n b p h))

-- the walk
abbrev ShortTrail : ℕ → End → Type 0
ShortTrail n (walk_stopped t) = Unit {0}
ShortTrail n (at_leaf l x trail) = length (map step_up trail) < n
ShortTrail n (at_gap trail) = Unit {0}

walk_short : (n : ℕ) (k : Bytes) (i : ℕ) (trail : List Pass) (s : Seen) → Depth n s →
    ShortTrail (n + length (map step_up trail)) (walk k i trail s)
walk_short n k i trail (stopped_by t) h = tt
walk_short n k i trail gap h = tt
walk_short zero k i trail (leaf_seen l x) h = absurd h
walk_short (suc n) k i trail (leaf_seen l x) h = omega arith
walk_short zero k i trail (fork hashes kids) h = absurd h
walk_short (suc n) k i trail (fork hashes kids) h =
    let p : Pass = record { turn = bit i k; hashes = hashes; kids = kids } in
    subst (λ m. ShortTrail m (walk k (suc i) (p ∷ trail) (kids (bit i k)))) (count (length (map step_up trail)))
    (walk_short n k (suc i) (p ∷ trail) (kids (bit i k)) (h (bit i k)))
  where
    count : (m : ℕ) → n + suc m ≡ suc n + m
    count m = omega arith

-- The paths of a proof.
abbrev pub path_if : Option Presence → List Presence
path_if none = []
path_if (some p) = p ∷ []

abbrev pub paths_of : Proof → List Presence
paths_of (presence p) = p ∷ []
paths_of (absence a) = path_if a.leftward ++ path_if a.rightward

abbrev ShortGiven : ℕ → Answer Proof → Type 0
ShortGiven n (refused r) = Unit {0}
ShortGiven n (accepted p) = All (Short n) (paths_of p)

absence_short : (n : ℕ) (k : Bytes) (x y : Sought) → ShortFound n x → ShortFound n y → ShortGiven n (absence_from k x y)
absence_short n k (search_stopped t) y h g = tt
absence_short n k nobody (search_stopped t) h g = tt
absence_short n k nobody nobody h g = tt
absence_short n k nobody (somebody q) h g = (g, tt)
absence_short n k (somebody p) (search_stopped t) h g = tt
absence_short n k (somebody p) nobody h g = (h, tt)
absence_short n k (somebody p) (somebody q) h g = (h, (g, tt))

end_short : (n : ℕ) (k : Bytes) (e : End) → ShortTrail n e → ((b : Side) → ShortFound n (neighbour b k e)) → ShortGiven n (prove_end k e)
unfolding absence_at
end_short n k (walk_stopped t) w f = tt
end_short n k (at_leaf l x trail) w f = go (same_bytes k l)
  where
    go : (b : Bool) → ShortGiven n
        (cond b (accepted (presence (presence_of l x (map step_up trail))))
        (absence_from k (neighbour left k (at_leaf l x trail)) (neighbour right k (at_leaf l x trail))))
    go true = (w, tt)
    go false = absence_short n k (neighbour left k (at_leaf l x trail)) (neighbour right k (at_leaf l x trail)) (f left) (f right)
end_short n k (at_gap trail) w f = absence_short n k (neighbour left k (at_gap trail)) (neighbour right k (at_gap trail)) (f left) (f right)

seen_short : (n : ℕ) (k : Bytes) (s : Seen) → Depth n s → ShortGiven n (prove_seen k s)
unfolding prove_seen
seen_short n k s h =
    end_short n k (walk k 0 [] s) (subst (λ m. ShortTrail m (walk k 0 [] s)) (omega arith) (walk_short n k 0 [] s h))
    (λ b. neighbour_short n b k 0 s h)

given_short : (st : Store) (v : ℕ) (k : Bytes) → ShortGiven 257 (proof st v k)
unfolding seen
given_short st v k = subst (ShortGiven 257) (sym (proof_by_searches st v k)) (go (is_kept st v))
  where
    go : (b : Bool) → ShortGiven 257
        (cond b (prove_seen k (seen_root ((scan st).root v) (λ c d. seen_at 255 (scan st) (c ∷ []) d))) (refused 8))
    go true = seen_short 257 k _ (root_depth 255 (scan st) ((scan st).root v))
    go false = tt

-- so of a proof that is given
pub steps_at_most : (st : Store) (v : ℕ) (k : Bytes) (p : Proof) → proof st v k ≡ accepted p →
    All (λ q. length q.steps ≤ 256) (paths_of p)
steps_at_most st v k p e =
    all_map (Short 257) (λ q. length q.steps ≤ 256) (paths_of p) (λ q h. omega arith) (subst (ShortGiven 257) e (given_short st v k))

-- 256 steps make 8,520 bytes, and two such paths 17,080
pub presence_at_most : (q : Presence) → length q.steps ≤ 256 → presence_length q ≤ 8520
unfolding presence_length
presence_at_most q h = omega arith

pub proof_at_most : (p : Proof) → All (λ q. presence_length q ≤ 8520) (paths_of p) → proof_length p ≤ 17080
proof_at_most (presence p) h = let a : presence_length p ≤ 8520 = h.0 in omega arith
proof_at_most (absence a) h = go a.leftward a.rightward h
  where
    go : (l r : Option Presence) → All (λ q. presence_length q ≤ 8520) (path_if l ++ path_if r) →
        40 + neighbour_length l + neighbour_length r ≤ 17080
    go none none h = omega arith
    go none (some q) h = let b : presence_length q ≤ 8520 = h.0 in omega arith
    go (some p) none h = let a : presence_length p ≤ 8520 = h.0 in omega arith
    go (some p) (some q) h = let a : presence_length p ≤ 8520 = h.0 in let b : presence_length q ≤ 8520 = h.1.0 in omega arith
