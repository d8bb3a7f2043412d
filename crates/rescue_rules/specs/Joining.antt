-- 2026-08 by versions compared two by two. No public promise reaches this file: that it decides runs is a theorem.
-- Assumes nothing.
use Rattle.std.specs.Prelude.{ℕ, zero, suc, ◌+◌, ◌-◌, ◌≤◌, ◌<◌, max, ◌≡◌, ◌⊎◌, Bool, true, false, cond, ◌&&◌, ◌||◌, not, List, [], eqb, leb, ltb}
use Rattle.std.proofs.Math.Option.{Option, none, some}
use Rattle.terms.specs.declared.Form.TheVariants.{Counted as counted}
use Rattle.terms.specs.Bits.{Bytes, Side, left, right, Place, longer, begins, same_bytes}
use Rattle.terms.specs.Records.{Child, Body, leaf_body, inner_body, Record, Slot, Store}
use Rattle.meaning.specs.Store.{find}
use Rattle.meaning.specs.Sound.{NodeOf, Stands}
use Rattle.meaning.specs.Reading.{body_hash}
use Rattle.meaning.specs.Local.{child_version, counts_by}
use Rattle.local.specs.Test.{lone_leaf, counts_are}
use Rattle.rescue_rules.specs.Rescue.{source_root, source_tree, same_node}

-- The source as a store, for what is said of slots alone.
abbrev pub source : List Slot → Store
source s = record { form = counted; oldest = 0; latest = 0; slots = s }

-- What is in the tree of the version after u and not in that of u has that version.
abbrev pub Joins : List Slot → ℕ → Type 0
Joins s u = (w : ℕ) (q : Place) → NodeOf w q (source_tree s (suc u)) [] → NodeOf w q (source_tree s u) [] ⊎ (w ≡ suc u)

module _ (leaf_hash inner_hash : Bytes → Bytes → Bytes) where
  -- The tree of v is right by itself: it has a root, stands, and holds no version above v.
  pub record Good (s : List Slot) (v : ℕ) : Type 0 where
    pub root : (r : Record) × (source_root s v ≡ some r)
    pub stands : Stands leaf_hash inner_hash (source s) [] (source_tree s v)
    pub versions : (w : ℕ) (q : Place) → NodeOf w q (source_tree s v) [] → w ≤ v

  -- Each version's tree is right, and joins the next one's.
  pub record Chain (s : List Slot) (first more : ℕ) : Type 0 where
    pub good : (v : ℕ) → first ≤ v → v ≤ first + more → Good s v
    pub joins : (v : ℕ) → first ≤ v → v < first + more → Joins s v

-- The version of a record that is found; 0 where none is.
abbrev pub version_of : Option Record → ℕ
version_of none = 0
version_of (some r) = r.version

-- The version of the child that a record names on a side; 0 where there is no record or no child.
abbrev pub kid_of : Side → Option Record → ℕ
kid_of b none = 0
kid_of b (some r) = child_version b r.body

-- Two trees at a place: where they have the same version they are the same; else what is asked here, and below on both
-- sides.
abbrev pub parted : Bool → Bool → (Side → Bool) → Bool
parted true here below = true
parted false here below = here && (below left && below right)

abbrev pub parted_most : Bool → ℕ → (Side → ℕ) → ℕ
parted_most true here below = 0
parted_most false here below = max here (max (below left) (below right))

-- A child's version where it is newer than its parent.
unfoldable pub newer : ℕ → ℕ → ℕ
newer a c = cond (ltb a c) c 0

-- The greatest version of a child newer than its parent, here and below, among the records of the first tree that the
-- second lacks.
abbrev pub newest_child : ℕ → List Slot → ℕ → ℕ → Place → ℕ
newest_child zero s a b p = 0
newest_child (suc n) s a b p =
    parted_most (eqb a b) (max (newer a (kid_of left (find a p s))) (newer a (kid_of right (find a p s))))
    (λ c. newest_child n s (kid_of c (find a p s)) (kid_of c (find b p s)) (longer c p))

abbrev pub parted_any : Bool → Bool → (Side → Bool) → Bool
parted_any true here below = false
parted_any false here below = here || (below left || below right)

-- The nodes that are met: those of the first tree that the second lacks.
abbrev pub met_at : ℕ → List Slot → ℕ → ℕ → Place → ℕ → Place → Bool
met_at zero s a b p w q = parted_any (eqb a b) (not (eqb a 0) && same_node w q a p) (λ c. false)
met_at (suc n) s a b p w q =
    parted_any (eqb a b) (not (eqb a 0) && same_node w q a p)
    (λ c. met_at n s (kid_of c (find a p s)) (kid_of c (find b p s)) (longer c p) w q)

unfoldable pub root_version : List Slot → ℕ → ℕ
root_version s v = version_of (source_root s v)

-- No version before this one can begin a run: it is the greatest version of a child newer than its parent, in all trees
-- of the run.
abbrev pub floor : List Slot → ℕ → ℕ → ℕ
floor s first zero = newest_child 256 s (root_version s first) 0 []
floor s first (suc more) =
    max (floor s (suc first) more) (newest_child 256 s (root_version s first) (root_version s (suc first)) [])

module _ (leaf_hash inner_hash : Bytes → Bytes → Bytes) where
  -- A child beside another is missing, or found with the stored hash and no lone leaf.
  abbrev pub linked : Option Record → Child → Child → Bool
  linked none c d = eqb c.version 0
  linked (some q) c d = same_bytes (body_hash leaf_hash inner_hash q.body) c.hash && not (lone_leaf d q.body)

  -- A leaf's key begins with its place; an inner record's children are linked.
  abbrev pub body_right : List Slot → Place → Body → Bool
  body_right s p (leaf_body k x) = begins p k
  body_right s p (inner_body l r) =
      linked (find l.version (longer left p) s) l r && linked (find r.version (longer right p) s) r l

  -- No node was asked for, or it is found and right by itself, and each of its counts is what the record found as that
  -- child says (2026-09).
  abbrev pub record_right : List Slot → ℕ → Place → Option Record → Bool
  record_right s v p none = eqb v 0
  record_right s v p (some r) = body_right s p r.body && counts_are counted r.counts (counts_by s p r.body)

  -- The node of version a joins that of version b in the next version's tree, at a place n bits short of a key, and so
  -- does all below: what the first tree alone has is right, what the second alone has is of the version `next`.
  abbrev pub join_at : ℕ → List Slot → ℕ → ℕ → ℕ → Place → Bool
  join_at zero s next a b p = parted (eqb a b) ((eqb b 0 || eqb b next) && record_right s a p (find a p s)) (λ c. true)
  join_at (suc n) s next a b p =
      parted (eqb a b) ((eqb b 0 || eqb b next) && record_right s a p (find a p s))
      (λ c. join_at n s next (kid_of c (find a p s)) (kid_of c (find b p s)) (longer c p))

  -- A version has a root, joins the next tree, whose root has version b, and begins no run too early.
  unfoldable pub joins_next : List Slot → ℕ → ℕ → ℕ → Bool
  joins_next s v b lowest =
      not (eqb (root_version s v) 0) && (join_at 256 s (suc v) (root_version s v) b [] && leb lowest v)

  -- A run, from its last version backwards: each version is compared with the next one alone.
  abbrev pub run_test : List Slot → ℕ → ℕ → Bool
  run_test s first zero = joins_next s first 0 (floor s first 0)
  run_test s first (suc more) =
      run_test s (suc first) more && joins_next s first (root_version s (suc first)) (floor s first (suc more))

  -- From the run of more + 1 versions that begins k after oldest, back as far as versions join: the first version.
  abbrev pub back_from : List Slot → ℕ → ℕ → ℕ → ℕ
  back_from s oldest zero more = oldest
  back_from s oldest (suc k) more =
      cond (joins_next s (oldest + k) (root_version s (suc (oldest + k))) (floor s (oldest + k) (suc more)))
      (back_from s oldest k (suc more))
      (oldest + suc k)

  -- The first version of the longest run; none where latest itself is no run.
  unfoldable pub first_of_run : List Slot → ℕ → ℕ → Option ℕ
  first_of_run s oldest latest = cond (run_test s latest 0) (some (back_from s oldest (latest - oldest) 0)) none
