-- A proof drawn from a store whose slots are in form is in form: what a read sees there has keys, values and hashes of 32 bytes, so have the
-- nodes that a walk passes, and so have the paths of walk and searches. Assumes nothing.
use Prim.Native.Nat.{ℕ, zero, suc, ◌≤◌}
use native.Mathlib.Omega.{arith}
use mathlib.Core.Path.{◌≡◌, refl, sym, subst}
use mathlib.Core.Bool.{Bool, true, false, cond, not}
use mathlib.Core.List.{List, [], ◌∷◌, ◌++◌, map}
use mathlib.Core.Option.{Option, none, some}
use lib.ListN.{length}
use lib.Dec.{eqb}
use Rattle.terms.specs.declared.Form.TheVariants.{Counted as counted}
use Rattle.terms.specs.Bits.{Bytes, Whole32, Side, left, right, Place, longer, All, bit, begins, same_bytes}
use Rattle.terms.specs.Records.{Child, Body, leaf_body, inner_body, Record, free, Store, Step, Presence, Proof, presence, absence}
use Rattle.terms.specs.Form.{BodyForm}
use Rattle.terms.proofs.Lists.{all_append, all_at}
use Rattle.meaning.specs.Store.{child_on}
use Rattle.meaning.specs.Sight.{Sight, matches, nothing, spoilt, root_sight, node_sight, scan}
use Rattle.meaning.specs.Sound.{At}
use Rattle.meaning.specs.Calls.{Answer, refused, accepted, is_kept}
use Rattle.meaning.specs.Reading.{lost_record, stray_leaf, Seen, stopped_by, gap, leaf_seen, fork, seen_body, seen_child, seen_at, seen_root, seen, Pass, End, walk_stopped, at_leaf, at_gap, walk}
use Rattle.meaning.specs.Proving.{step, presence_of, step_up, is_gap, Descended, descent_stopped, reached, raised_by, descend, Sought, search_stopped, nobody, somebody, sought, turns_away, from_trail, beyond, neighbour, absence_from, absence_at, prove_end, prove_seen, proof}
use Rattle.meaning.proofs.Finding.{found_at}
use Rattle.meaning.proofs.Roots.{root_at_lem}
use Rattle.meaning.proofs.Sights.{sighted_root, sighted_node}
use Rattle.meaning.proofs.Empty.{proof_by_searches}
use Rattle.shown.proofs.Lengths.{path_if, paths_of}
use Rattle.shown.proofs.Theorems.{paths_have_256_steps}
use Rattle.proofrecords.specs.ProofBytes.{flags_of, StepForm, PresenceForm, NeighbourForm, ProofForm}
use Rattle.layout.specs.Slots.{SlotForm}

-- what holds of both holds of either
either : {A : Type 0} (P : A → Type 0) (b : Bool) (x y : A) → P x → P y → P (cond b x y)
either P true x y f g = f
either P false x y f g = g

-- what is seen
abbrev SeenForm : Seen → Type 0
SeenForm (stopped_by t) = Unit {0}
SeenForm gap = Unit {0}
SeenForm (leaf_seen k x) = Whole32 k × Whole32 x
SeenForm (fork hashes kids) = ((b : Side) → Whole32 (hashes b)) × ((b : Side) → SeenForm (kids b))

body_seen_lem : (p : Place) (o : Body) (kid : Side → Child → Seen) → BodyForm o → ((b : Side) (c : Child) → SeenForm (kid b c)) →
    SeenForm (seen_body p o kid)
body_seen_lem p (leaf_body k x) kid f h = either SeenForm (begins p k) (leaf_seen k x) (stopped_by stray_leaf) f tt
body_seen_lem p (inner_body l r) kid f h = (hashes, λ b. h b (child_on b l r))
  where
    hashes : (b : Side) → Whole32 (child_on b l r).hash
    hashes false = f.0.hash32
    hashes true = f.1.hash32

-- what is sighted in slots that are in form
abbrev SightForm : Sight → Type 0
SightForm (matches r) = BodyForm r.body
SightForm nothing = Unit {0}
SightForm (spoilt i) = Unit {0}

slot_form : (st : Store) (i : ℕ) (r : Record) → All (SlotForm counted) st.slots → At st i r → BodyForm r.body
unfolding At
slot_form st i r h a = (subst (SlotForm counted) a.1 (all_at (SlotForm counted) st.slots free i h a.0)).0.body

node_form : (st : Store) (v : ℕ) (p : Place) → All (SlotForm counted) st.slots → SightForm (node_sight st v p)
node_form st v p h = go (node_sight st v p) refl
  where
    go : (x : Sight) → node_sight st v p ≡ x → SightForm x
    go (matches r) e = let w = found_at st v p r (sighted_node st v p r e) in slot_form st w.0 r h w.1
    go nothing e = tt
    go (spoilt i) e = tt

root_form : (st : Store) (v : ℕ) → All (SlotForm counted) st.slots → SightForm (root_sight st v)
root_form st v h = go (root_sight st v) refl
  where
    go : (x : Sight) → root_sight st v ≡ x → SightForm x
    go (matches r) e = let w = root_at_lem st v r (sighted_root st v r e) in slot_form st w.0 r h w.1
    go nothing e = tt
    go (spoilt i) e = tt

child_seen : (v : ℕ) (p : Place) (o : Sight) (kid : Side → Child → Seen) → SightForm o →
    ((b : Side) (c : Child) → SeenForm (kid b c)) → SeenForm (cond (eqb v 0) gap (seen_child p o kid))
child_seen v p o kid f h = either SeenForm (eqb v 0) gap (seen_child p o kid) tt (go o f)
  where
    go : (o : Sight) → SightForm o → SeenForm (seen_child p o kid)
    go nothing f = tt
    go (spoilt i) f = tt
    go (matches r) f = body_seen_lem p r.body kid f h

at_seen : (n : ℕ) (st : Store) (p : Place) (c : Child) → All (SlotForm counted) st.slots → SeenForm (seen_at n (scan st) p c)
at_seen zero st p c h =
    child_seen c.version p (node_sight st c.version p) (λ b d. stopped_by lost_record) (node_form st c.version p h) (λ b d. tt)
at_seen (suc n) st p c h =
    child_seen c.version p (node_sight st c.version p) (λ b d. seen_at n (scan st) (longer b p) d) (node_form st c.version p h)
    (λ b d. at_seen n st (longer b p) d h)

root_seen : (n : ℕ) (st : Store) (o : Sight) → All (SlotForm counted) st.slots → SightForm o →
    SeenForm (seen_root o (λ b d. seen_at n (scan st) (b ∷ []) d))
root_seen n st nothing h f = tt
root_seen n st (spoilt i) h f = tt
root_seen n st (matches r) h f = body_seen_lem [] r.body (λ b d. seen_at n (scan st) (b ∷ []) d) f (λ b d. at_seen n st (b ∷ []) d h)

-- paths
record PathForm (q : Presence) : Type 0 where
  key32 : Whole32 q.key
  value32 : Whole32 q.value
  steps32 : All StepForm q.steps

abbrev PathIf : Option Presence → Type 0
PathIf none = Unit {0}
PathIf (some q) = PathForm q

abbrev DescentForm : Descended → Type 0
DescentForm (descent_stopped t) = Unit {0}
DescentForm (reached q) = PathForm q

raised_form : (steps : List Step) (o : Descended) → All StepForm steps → DescentForm o → DescentForm (raised_by steps o)
raised_form steps (descent_stopped t) h f = tt
raised_form steps (reached q) h f =
    record { key32 = f.key32; value32 = f.value32; steps32 = all_append StepForm q.steps steps f.steps32 h }

descent_form : (b : Side) (x : Seen) → SeenForm x → DescentForm (descend b x)
descent_form b (stopped_by t) h = tt
descent_form b gap h = tt
descent_form b (leaf_seen k x) h = record { key32 = h.0; value32 = h.1; steps32 = tt }
descent_form b (fork hashes kids) h =
    let s : List Step = step (not b) (hashes b) ∷ [] in
    let t : List Step = step b (hashes (not b)) ∷ [] in
    let x : Descended = descend b (kids (not b)) in
    let y : Descended = descend b (kids b) in
    either DescentForm (is_gap (kids b)) (raised_by s x) (raised_by t y) (raised_form s x (h.0 b, tt) (descent_form b (kids (not b)) (h.1 (not b))))
    (raised_form t y (h.0 (not b), tt) (descent_form b (kids b) (h.1 b)))

-- the nodes that a walk passes
abbrev PassForm : Pass → Type 0
PassForm p = ((b : Side) → Whole32 (p.hashes b)) × ((b : Side) → SeenForm (p.kids b))

up_form : (trail : List Pass) → All PassForm trail → All StepForm (map step_up trail)
up_form [] h = tt
up_form (p ∷ trail) h = (h.0.0 (not p.turn), up_form trail h.1)

abbrev EndForm : End → Type 0
EndForm (walk_stopped t) = Unit {0}
EndForm (at_leaf k x trail) = Whole32 k × Whole32 x × All PassForm trail
EndForm (at_gap trail) = All PassForm trail

walk_form : (k : Bytes) (i : ℕ) (trail : List Pass) (x : Seen) → SeenForm x → All PassForm trail → EndForm (walk k i trail x)
walk_form k i trail (stopped_by t) h f = tt
walk_form k i trail gap h f = f
walk_form k i trail (leaf_seen l x) h f = (h.0, h.1, f)
walk_form k i trail (fork hashes kids) h f =
    walk_form k (suc i) (record { turn = bit i k; hashes = hashes; kids = kids } ∷ trail) (kids (bit i k)) (h.1 (bit i k)) (h, f)

-- the searches
abbrev SoughtForm : Sought → Type 0
SoughtForm (search_stopped t) = Unit {0}
SoughtForm nobody = Unit {0}
SoughtForm (somebody q) = PathForm q

sought_form : (o : Descended) → DescentForm o → SoughtForm (sought o)
sought_form (descent_stopped t) f = tt
sought_form (reached q) f = f

trail_form : (b : Side) (trail : List Pass) → All PassForm trail → SoughtForm (from_trail b trail)
trail_form b [] h = tt
trail_form b (p ∷ trail) h =
    let s : List Step = step b (p.hashes (not b)) ∷ map step_up trail in
    let x : Descended = descend (not b) (p.kids b) in
    either SoughtForm (turns_away b p) (sought (raised_by s x)) (from_trail b trail)
    (sought_form (raised_by s x)
    (raised_form s x (h.0.0 (not b), up_form trail h.1) (descent_form (not b) (p.kids b) (h.0.1 b)))) (trail_form b trail h.1)

leaf_form : (k x : Bytes) (trail : List Pass) → Whole32 k → Whole32 x → All PassForm trail → PathForm (presence_of k x (map step_up trail))
leaf_form k x trail a b h = record { key32 = a; value32 = b; steps32 = up_form trail h }

neighbour_form : (b : Side) (k : Bytes) (e : End) → EndForm e → SoughtForm (neighbour b k e)
neighbour_form b k (walk_stopped t) h = tt
neighbour_form b k (at_leaf l x trail) h =
    either SoughtForm (beyond b l k) (somebody (presence_of l x (map step_up trail))) (from_trail b trail)
    (leaf_form l x trail h.0 h.1 h.2) (trail_form b trail h.2)
neighbour_form b k (at_gap trail) h = trail_form b trail h

-- what is given
abbrev GivenForm : Answer Proof → Type 0
GivenForm (refused n) = Unit {0}
GivenForm (accepted (presence q)) = PathForm q
GivenForm (accepted (absence a)) =
    Whole32 a.key × PathIf a.leftward × PathIf a.rightward × (1 ≤ flags_of a.leftward a.rightward)

absence_form : (k : Bytes) (x y : Sought) → Whole32 k → SoughtForm x → SoughtForm y → GivenForm (absence_from k x y)
absence_form k (search_stopped t) y w f g = tt
absence_form k nobody (search_stopped t) w f g = tt
absence_form k nobody nobody w f g = tt
absence_form k nobody (somebody q) w f g = (w, tt, g, omega arith)
absence_form k (somebody p) (search_stopped t) w f g = tt
absence_form k (somebody p) nobody w f g = (w, f, tt, omega arith)
absence_form k (somebody p) (somebody q) w f g = (w, f, g, omega arith)

sides_form : (k : Bytes) (e : End) → Whole32 k → EndForm e → GivenForm (absence_at k e)
unfolding absence_at
sides_form k e w h = absence_form k (neighbour left k e) (neighbour right k e) w (neighbour_form left k e h) (neighbour_form right k e h)

end_form : (k : Bytes) (e : End) → Whole32 k → EndForm e → GivenForm (prove_end k e)
end_form k (walk_stopped t) w h = tt
end_form k (at_leaf l x trail) w h =
    let e = at_leaf l x trail in
    either GivenForm (same_bytes k l) (accepted (presence (presence_of l x (map step_up trail)))) (absence_at k e)
    (leaf_form l x trail h.0 h.1 h.2) (sides_form k e w h)
end_form k (at_gap trail) w h = sides_form k (at_gap trail) w h

given_form : (st : Store) (v : ℕ) (k : Bytes) → All (SlotForm counted) st.slots → Whole32 k → GivenForm (proof st v k)
unfolding prove_seen seen
given_form st v k h w =
    let x : Seen = seen_root (root_sight st v) (λ b d. seen_at 255 (scan st) (b ∷ []) d) in
    let f : SeenForm x = root_seen 255 st (root_sight st v) h (root_form st v h) in
    subst GivenForm (sym (proof_by_searches st v k))
    (either GivenForm (is_kept st v) (prove_end k (walk k 0 [] x)) (refused 8) (end_form k (walk k 0 [] x) w (walk_form k 0 [] x f tt)) tt)

-- with at most 256 steps in each path
path_whole : (q : Presence) → PathForm q → length q.steps ≤ 256 → PresenceForm q
path_whole q f h = record { key32 = f.key32; value32 = f.value32; short = h; steps32 = f.steps32 }

pub proof_form : (st : Store) (v : ℕ) (k : Bytes) (p : Proof) → All (SlotForm counted) st.slots → Whole32 k → proof st v k ≡ accepted p → ProofForm p
proof_form st v k p h w e = go p (subst GivenForm e (given_form st v k h w)) (paths_have_256_steps st v k p e)
  where
    go : (p : Proof) → GivenForm (accepted p) → All (λ q. length q.steps ≤ 256) (paths_of p) → ProofForm p
    go (presence q) f s = path_whole q f s.0
    go (absence a) f s = let n = sides a.leftward a.rightward f.1 f.2 s in (f.0, n.0, n.1, f.3)
      where
        sides : (l r : Option Presence) → PathIf l → PathIf r → All (λ q. length q.steps ≤ 256) (path_if l ++ path_if r) →
            NeighbourForm l × NeighbourForm r
        sides none none f g s = (tt, tt)
        sides none (some q) f g s = (tt, path_whole q g s.0)
        sides (some p) none f g s = (path_whole p f s.0, tt)
        sides (some p) (some q) f g s = (path_whole p f s.0, path_whole q g s.1.0)
