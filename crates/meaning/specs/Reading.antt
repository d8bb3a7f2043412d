-- Document 01, 'Reading and proving', with 2026-07: what a read sees, for every store, sound or not. Assumes nothing.
use Rattle.std.specs.Prelude.{ℕ, zero, suc, ◌+◌, ◌*◌, cond, List, [], ◌∷◌, eqb}
use Rattle.terms.specs.Bits.{Bytes, Side, Place, longer, bit, begins, same_bytes}
use Rattle.terms.specs.Records.{Grant, Child, Body, leaf_body, inner_body, Store, zeros}
use Rattle.meaning.specs.Store.{child_on}
use Rattle.meaning.specs.Sight.{Sight, matches, nothing, spoilt, Looking, scan}
use Rattle.meaning.specs.Calls.{Answer, refused, accepted, is_kept}

-- What stops a read: a present child that no slot matches; a record that is spoilt, by its slot; a found leaf whose key
-- doesn't begin with its place.
pub data Trouble : Type 0 where
  lost_record : Trouble
  spoilt_record : ℕ → Trouble
  stray_leaf : Trouble

-- The slot beside a number of refusal: slot + 1 in the high half of 64 bits.
unfoldable pub beside : ℕ → ℕ → ℕ
beside n i = n + 4294967296 * (i + 1)

-- 17; 3 with the slot beside it; 3.
abbrev pub refusal_of : Trouble → ℕ
refusal_of lost_record = 17
refusal_of (spoilt_record i) = beside 3 i
refusal_of stray_leaf = 3

-- What a read sees at a place: trouble; no child; a leaf; an inner node, with its children's hashes and what is seen.
pub data Seen : Type 0 where
  stopped_by : Trouble → Seen
  gap : Seen
  leaf_seen : Bytes → Bytes → Seen
  fork : (Side → Bytes) → (Side → Seen) → Seen

abbrev pub seen_body : Place → Body → (Side → Child → Seen) → Seen
seen_body p (leaf_body k x) kid = cond (begins p k) (leaf_seen k x) (stopped_by stray_leaf)
seen_body p (inner_body l r) kid = fork (λ b. (child_on b l r).hash) (λ b. kid b (child_on b l r))

-- By what was found; where no slot matches, this is seen.
abbrev pub seen_found : Seen → Place → Sight → (Side → Child → Seen) → Seen
seen_found end p (matches r) kid = seen_body p r.body kid
seen_found end p nothing kid = end
seen_found end p (spoilt i) kid = stopped_by (spoilt_record i)

-- At a child, at a place which is n bits short of a key; below a whole key, where no record is in form, all is lost.
abbrev pub seen_at : ℕ → Looking → Place → Child → Seen
seen_at zero look p c = cond (eqb c.version 0) gap
    (seen_found (stopped_by lost_record) p (look.node c.version p) (λ b d. stopped_by lost_record))
seen_at (suc n) look p c = cond (eqb c.version 0) gap
    (seen_found (stopped_by lost_record) p (look.node c.version p) (λ b d. seen_at n look (longer b p) d))

-- No slot that matches a root means an empty version.
unfoldable pub seen : Looking → ℕ → Seen
seen look v = seen_found gap [] (look.root v) (λ b d. seen_at 255 look (b ∷ []) d)

-- An inner node passed by a walk, and the side taken there.
pub record Pass : Type 0 where
  pub turn : Side
  pub hashes : Side → Bytes
  pub kids : Side → Seen

-- Where a walk ends: refused, at a leaf, or at a missing child; with the nodes passed, the deepest first.
pub data End : Type 0 where
  walk_stopped : Trouble → End
  at_leaf : Bytes → Bytes → List Pass → End
  at_gap : List Pass → End

-- The walk follows the key's bits, from bit i.
abbrev pub walk : Bytes → ℕ → List Pass → Seen → End
walk k i trail (stopped_by t) = walk_stopped t
walk k i trail gap = at_gap trail
walk k i trail (leaf_seen l x) = at_leaf l x trail
walk k i trail (fork hashes kids) =
    walk k (suc i) (record { turn = bit i k; hashes = hashes; kids = kids } ∷ trail) (kids (bit i k))

-- What is said of a key: its value, or that it is absent.
pub data Verdict : Type 0 where
  present : Bytes → Verdict
  absent : Verdict

abbrev pub read_end : Bytes → End → Answer Verdict
read_end k (walk_stopped t) = refused (refusal_of t)
read_end k (at_leaf l x trail) = accepted (cond (same_bytes k l) (present x) absent)
read_end k (at_gap trail) = accepted absent

-- A key read answers the value or "absent": 8, then the first of 3 and 17 that is met; by how it finds, and by scans.
abbrev pub read_key_by : Looking → Store → ℕ → Bytes → Answer Verdict
read_key_by look st v k = cond (is_kept st v) (read_end k (walk k 0 [] (seen look v))) (refused 8)

unfoldable pub read_key : Store → ℕ → Bytes → Answer Verdict
read_key st v k = read_key_by (scan st) st v k

-- What a set of grants says of a key.
abbrev pub answer_of : Bytes → List Grant → Verdict
answer_of k [] = absent
answer_of k (g ∷ gs) = cond (same_bytes k g.key) (present g.value) (answer_of k gs)

module _ (leaf_hash inner_hash : Bytes → Bytes → Bytes) where
  -- The hash of a record, from what it holds.
  abbrev pub body_hash : Body → Bytes
  body_hash (leaf_body k x) = leaf_hash k x
  body_hash (inner_body l r) = inner_hash l.hash r.hash

  -- A root read answers the hash of the root record alone, or zeros.
  abbrev pub root_read : Sight → Answer Bytes
  root_read (matches r) = accepted (body_hash r.body)
  root_read nothing = accepted zeros
  root_read (spoilt i) = refused (refusal_of (spoilt_record i))

  -- 8, then 3.
  abbrev pub read_root_by : Looking → Store → ℕ → Answer Bytes
  read_root_by look st v = cond (is_kept st v) (root_read (look.root v)) (refused 8)

  unfoldable pub read_root : Store → ℕ → Answer Bytes
  read_root st v = read_root_by (scan st) st v

-- What is seen at a child and at a root, by name.
abbrev pub seen_child : Place → Sight → (Side → Child → Seen) → Seen
seen_child p s kid = seen_found (stopped_by lost_record) p s kid

abbrev pub seen_root : Sight → (Side → Child → Seen) → Seen
seen_root s kid = seen_found gap [] s kid
