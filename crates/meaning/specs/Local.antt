-- Soundness by single records: what a check of a store looks at, each record, its children and its parents. No version
-- is tried one by one. No public promise reaches this file: that a store is sound exactly if it is so is a theorem.
-- Assumes nothing.
use Rattle.std.specs.Prelude.{ℕ, suc, ◌≤◌, ◌<◌, max, ◌≡◌, ◌⊎◌, true, cond, List, [], length, get_or, eqb}
use Rattle.std.proofs.Math.Option.{Option, none, some}
use Rattle.terms.specs.Bits.{Bytes, Side, left, right, Place, longer, begins}
use Rattle.terms.specs.Records.{
  Child,
  Body,
  leaf_body,
  inner_body,
  Tally,
  tally,
  no_tally,
  Record,
  Slot,
  free,
  spoiled,
  Store,
}
use Rattle.terms.specs.Form.{RecordForm, top32}
use Rattle.meaning.specs.Store.{child_on, find, root_of}
use Rattle.meaning.specs.Sound.{At, Kept, Lives, most_slots, CountsAre}
use Rattle.meaning.specs.Reading.{body_hash}
use Rattle.meaning.specs.Counting.{weight}

-- The first version after a record's life; a record that is not retired lives past latest.
unfoldable pub ends_before : Store → Record → ℕ
ends_before st r = cond (eqb r.retired 0) (suc st.latest) r.retired

-- The version of the child that a body names on a side; 0 for none.
abbrev pub child_version : Side → Body → ℕ
child_version b (leaf_body k x) = 0
child_version b (inner_body l r) = (child_on b l r).version

-- A child c of that body, beside the child d, would be a lone leaf.
abbrev pub LoneLeaf : Child → Body → Type 0
LoneLeaf d (leaf_body k x) = d.version ≡ 0
LoneLeaf d (inner_body l r) = ⊥

-- The leaves at a record found as a child, by what it says; 0 for none.
abbrev pub weighed : Option Record → ℕ
weighed none = 0
weighed (some q) = weight q

-- The counts of a record by the records found as its children.
abbrev pub counts_by : List Slot → Place → Body → Tally
counts_by s p (leaf_body k x) = no_tally
counts_by s p (inner_body l r) =
    tally (weighed (find l.version (longer left p) s)) (weighed (find r.version (longer right p) s))

module _ (leaf_hash inner_hash : Bytes → Bytes → Bytes) where
  -- The child c of the record r, at the place p, beside d: missing, or found as a record that lives at each kept
  -- version of r's life, with the stored hash, and no lone leaf.
  pub data Linked (st : Store) (r : Record) (p : Place) (c d : Child) : Type 0 where
    missing : c.version ≡ 0 → Linked st r p c d
    found : (i : ℕ) (q : Record) →
        At st i q →
        q.place ≡ p →
        q.version ≡ c.version →
        body_hash leaf_hash inner_hash q.body ≡ c.hash →
        q.version ≤ max st.oldest r.version →
        ends_before st r ≤ ends_before st q →
        (LoneLeaf d q.body → ⊥) →
        Linked st r p c d

  -- A leaf's key begins with its place; an inner record's children are linked.
  abbrev pub BodyFits : Store → Record → Body → Type 0
  BodyFits st r (leaf_body k x) = begins r.place k ≡ true
  BodyFits st r (inner_body a b) = Linked st r (longer left r.place) a b × Linked st r (longer right r.place) b a

  pub record Local (st : Store) : Type 0 where
    pub size : (1 ≤ length st.slots) × (length st.slots ≤ most_slots)
    pub header : (st.oldest ≤ st.latest) × (st.latest ≤ top32)
    pub whole : (i : ℕ) (x : Bytes) → i < length st.slots → get_or st.slots i free ≡ spoiled x → ⊥
    pub formed : (i : ℕ) (r : Record) → At st i r → RecordForm r
    pub unique : (i j : ℕ) (r q : Record) → At st i r → At st j q → r.version ≡ q.version → r.place ≡ q.place →
        i ≡ j
    pub versions : (i : ℕ) (r : Record) → At st i r → (1 ≤ r.version) × (r.version ≤ st.latest)
    pub lifetimes : (i : ℕ) (r : Record) →
        At st i r → (r.retired ≡ 0) ⊎ ((r.version < r.retired) × (st.oldest < r.retired) ×
        (r.retired ≤ st.latest))
    -- a root record that lives at a kept version is that version's root
    pub roots : (v : ℕ) → Kept st v → (i : ℕ) (r : Record) → At st i r → r.place ≡ [] → Lives v r →
        root_of st v ≡ some r
    pub bodies : (i : ℕ) (r : Record) → At st i r → BodyFits st r r.body
    -- each count is what the record found as that child says of the leaves there
    pub counts : (i : ℕ) (r : Record) → At st i r →
        CountsAre st.form r.counts (counts_by st.slots r.place r.body)
    -- at each kept version of its life, a record below the root is named by a record one bit shorter that lives then
    pub parents : (i : ℕ) (r : Record) (p : Place) (b : Side) →
        At st i r →
        r.place ≡ longer b p →
        (v : ℕ) →
        st.oldest ≤ v →
        r.version ≤ v →
        v < ends_before st r →
        (j : ℕ)
        × (q : Record)
        × At st j q
        × (q.place ≡ p)
        × ((q.version ≤ v) × (v < ends_before st q))
        × (child_version b q.body ≡ r.version)
