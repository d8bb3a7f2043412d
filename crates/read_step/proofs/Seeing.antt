-- What is seen at the root and at a child, by the slot that is sighted there: a record in form is what its bytes say, and an inner one
-- has a place shorter than a key. Assumes nothing.
use Prim.Native.Nat.{ℕ, suc, ◌-◌, ◌<◌, ◌≤◌}
use native.Mathlib.Omega.{arith}
use mathlib.Core.Path.{◌≡◌, refl, ap, sym, ◌∙◌, subst}
use mathlib.Core.Bool.{Bool, true, false, cond}
use mathlib.Core.List.{List, []}
use lib.ListN.{length}
use Rattle.terms.specs.declared.Form.TheVariants.{Counted as counted}
use Rattle.terms.specs.Bits.{Bytes, Byte, All, Side, Place, longer, begins}
use Rattle.terms.specs.Records.{Child, leaf_body, inner_body, Record, used}
use Rattle.terms.specs.Form.{RecordForm, place_limit}
use Rattle.terms.proofs.Places.{length_longer}
use Rattle.meaning.specs.Store.{child_on}
use Rattle.meaning.specs.Sight.{Sight, matches, nothing, spoilt}
use Rattle.meaning.specs.Calls.{accepted}
use Rattle.meaning.specs.Reading.{lost_record, spoilt_record, stray_leaf, stopped_by, gap, leaf_seen, fork, seen_at, seen, body_hash, root_read}
use Rattle.indexed.specs.Index.{root_by, node_by, by_table}
use Rattle.indexed.proofs.Scanned.{root_found_at, node_found_at}
use Rattle.shown.proofs.SeenAt as shown
use Rattle.shown.proofs.SeenAt.{root_gap, root_leaf, root_fork, child_gap, child_lost, child_leaf, child_fork}
use Rattle.place.specs.declared.Place as declared-place
use Rattle.place.specs.Place.{place_of, Proper, Grown}
use Rattle.place.proofs.Places.{proper_count}
use Rattle.layout.specs.Sizes.{room_of}
use Rattle.layout.specs.Headers.{size_right}
use Rattle.layout.specs.Slots.{key_in, value_inside, left_in, right_in, kid_on, is_leaf, leaf_in, inner_in, record_in, slot_of, SlotForm}
use Rattle.layout.specs.Stores.{slot_in, store_of, Has}
use Rattle.layout.proofs.Headers.{size_says}
use Rattle.layout.proofs.Slots.{record_is}
use Rattle.layout.proofs.Stores.{slot_at_lem}
use Rattle.store.proofs.Slots.{slots_many, slot_formed}
use Rattle.sights.specs.Sights.{Sighted}
use Rattle.sights.specs.declared.Sight as declared-sight
use Rattle.sights.specs.declared.Sight.TheVariants as sight
use Rattle.read_step.specs.Walk.{body_in, kid_in, seen_below, body_seen, leaf_at, fork_at, Sees, SeesIn, SlotHolds}
use Rattle.read_step.specs.declared.Trouble.TheVariants as trouble
use Rattle.read_step.specs.declared.Seen as declared
use Rattle.read_step.specs.declared.Seen.TheVariants.{Stopped, Leaf, Inner}

-- the child on a side of an inner record
pub kid_is : (b : Side) (x : Bytes) → kid_on b x ≡ child_on b (left_in x) (right_in x)
kid_is false x = refl
kid_is true x = refl

-- a record in form holds what its bytes say
pub body_is : (x : Bytes) (r : Record) → slot_of x ≡ used r → r.body ≡ body_in x
unfolding body_in record_in
body_is x r e = ap (λ (q : Record). q.body) (sym (record_is x r e))

pub leaf_body_lem : (x : Bytes) → is_leaf x ≡ true → body_in x ≡ leaf_body (key_in x) (value_inside x)
unfolding body_in leaf_in
leaf_body_lem x e = rw e

pub inner_body_lem : (x : Bytes) → is_leaf x ≡ false → body_in x ≡ inner_body (left_in x) (right_in x)
unfolding body_in inner_in
inner_body_lem x e = rw e

by_kind : {A : Type 0} (b : Bool) → (b ≡ true → A) → (b ≡ false → A) → A
by_kind true f g = f refl
by_kind false f g = g refl

-- the record sought stands at this place, where there is one
abbrev pub PlacedAt : Sight → declared-place.Place → Type 0
PlacedAt o p = (q : Record) → o ≡ matches q → q.place ≡ place_of p

-- so it is with the node of a version and place, and with a root at the empty place
pub node_placed : (s : Bytes) (table : List ℕ) (v : ℕ) (p : declared-place.Place) → PlacedAt (node_by table (store_of s) v (place_of p)) p
node_placed s table v p q e = node_found_at (store_of s) table v (place_of p) q e

pub root_placed : (s : Bytes) (table : List ℕ) (v : ℕ) (p : declared-place.Place) → place_of p ≡ [] → PlacedAt (root_by table (store_of s) v) p
root_placed s table v p top q e = root_found_at (store_of s) table v q e ∙ sym top

-- what was found of the record sought
module _ (s : Bytes) (o : Sight) {r : declared-sight.Sight} (sighted : Sighted (store_of s).slots o r) where
  -- nothing
  module _ (no : r ≡ sight.Nothing) where
    pub none_sighted : o ≡ nothing
    none_sighted = subst (Sighted (store_of s).slots o) no sighted

    pub root_nothing : (table : List ℕ) (v : ℕ) → root_by table (store_of s) v ≡ o → seen (by_table table (store_of s)) v ≡ gap
    root_nothing table v e = root_gap (by_table table (store_of s)) v (e ∙ none_sighted)

    pub child_nothing : (table : List ℕ) (p : Place) (c : Child) → node_by table (store_of s) c.version p ≡ o → 1 ≤ c.version →
        seen_below s table p c ≡ stopped_by lost_record
    unfolding seen_below
    child_nothing table p c e h = child_lost (by_table table (store_of s)) p c (256 - length p) h (e ∙ none_sighted)

  -- a spoilt slot
  module _ {i : ℕ} (at_i : r ≡ sight.Spoilt i) where
    is_spoilt_lem : Sighted (store_of s).slots o (sight.Spoilt i)
    is_spoilt_lem = subst (Sighted (store_of s).slots o) at_i sighted

    pub spoilt_sighted : o ≡ spoilt i
    spoilt_sighted = is_spoilt_lem.1

    pub spoilt_small : size_right counted (length s) ≡ true → i < 65536
    spoilt_small size = let h = rw (slots_many counted s) at is_spoilt_lem.0 in omega (arith, size_says counted (length s) size)

    pub root_spoilt : (table : List ℕ) (v : ℕ) → root_by table (store_of s) v ≡ o → seen (by_table table (store_of s)) v ≡ stopped_by (spoilt_record i)
    root_spoilt table v e = shown.root_spoilt (by_table table (store_of s)) v i (e ∙ spoilt_sighted)

    pub child_spoilt : (table : List ℕ) (p : Place) (c : Child) → node_by table (store_of s) c.version p ≡ o → 1 ≤ c.version →
        seen_below s table p c ≡ stopped_by (spoilt_record i)
    unfolding seen_below
    child_spoilt table p c e h = shown.child_spoilt (by_table table (store_of s)) p c (256 - length p) i h (e ∙ spoilt_sighted)

  -- a record, in slot i
  module _ {i : ℕ} (at_i : r ≡ sight.Matches i) where
    found : Sighted (store_of s).slots o (sight.Matches i)
    found = subst (Sighted (store_of s).slots o) at_i sighted

    pub inside : i < room_of counted (length s)
    inside = rw (slots_many counted s) at found.0

    slot_is : slot_of (slot_in counted i s) ≡ used found.1.0
    slot_is = sym (slot_at_lem counted s i inside) ∙ found.1.1

    body : found.1.0.body ≡ body_in (slot_in counted i s)
    body = body_is (slot_in counted i s) found.1.0 slot_is

    pub root_hash : (leaf_hash inner_hash : Bytes → Bytes → Bytes) →
        accepted (body_hash leaf_hash inner_hash (body_in (slot_in counted i s))) ≡ root_read leaf_hash inner_hash o
    root_hash leaf_hash inner_hash =
        ap (λ b. accepted (body_hash leaf_hash inner_hash b)) (sym body) ∙ ap (root_read leaf_hash inner_hash) (sym found.1.2)

-- and at its place
module _ (s : Bytes) (size : size_right counted (length s) ≡ true) (bytes : All Byte s) (p : declared-place.Place) (proper : Proper p)
    {o : Sight} (placed : PlacedAt o p) {r : declared-sight.Sight} (sighted : Sighted (store_of s).slots o r) {i : ℕ} (at_i : r ≡ sight.Matches i) where
  abbrev it : Record
  it = (found s o sighted at_i).1.0

  is_found_lem : o ≡ matches it
  is_found_lem = (found s o sighted at_i).1.2

  has : Has counted s i
  has = record { size = size; inside = inside s o sighted at_i }

  form : RecordForm it
  form = (subst (SlotForm counted) (slot_is s o sighted at_i) (slot_formed has bytes)).0

  holds : it.body ≡ body_in (slot_in counted i s)
  holds = body s o sighted at_i

  place : it.place ≡ place_of p
  place = placed it is_found_lem

  short : is_leaf (slot_in counted i s) ≡ false → length (place_of p) ≤ 255
  short e =
      let limit : place_limit it.body ≡ 255 = ap place_limit (holds ∙ inner_body_lem (slot_in counted i s) e) in
      omega (arith, form.short, ap length place)

  pub holds_found : SlotHolds s i p
  holds_found = record {
    slotted = record { size = size; inside = has.inside; proper = proper };
    short = λ e. omega (arith, short e, proper_count p proper);
  }

  -- the root
  module _ (table : List ℕ) (v : ℕ) (root : root_by table (store_of s) v ≡ o) (top : place_of p ≡ []) where
    root_is : root_by table (store_of s) v ≡ matches it
    root_is = root ∙ is_found_lem

    root_leaf_is : is_leaf (slot_in counted i s) ≡ true → seen (by_table table (store_of s)) v ≡ body_seen s table (place_of p) (body_in (slot_in counted i s))
    unfolding begins
    root_leaf_is e =
        let k = key_in (slot_in counted i s) in
        let y = value_inside (slot_in counted i s) in
        let b = leaf_body_lem (slot_in counted i s) e in
        root_leaf (by_table table (store_of s)) v it k y root_is (holds ∙ b)
        ∙ ap (λ q. cond (begins q k) (leaf_seen k y) (stopped_by stray_leaf)) (sym top)
        ∙ ap (body_seen s table (place_of p)) (sym b)

    root_fork_is : is_leaf (slot_in counted i s) ≡ false → seen (by_table table (store_of s)) v ≡ body_seen s table (place_of p) (body_in (slot_in counted i s))
    root_fork_is e =
        let n = 255 - length (place_of p) in
        let l = left_in (slot_in counted i s) in
        let m = right_in (slot_in counted i s) in
        let b = inner_body_lem (slot_in counted i s) e in
        let w : 255 - length (place_of p) ≡ 255 = omega (arith, ap length top) in
        root_fork (by_table table (store_of s)) v n it l m w root_is (holds ∙ b)
        ∙ ap (λ q. fork (λ c. (child_on c l m).hash) (λ c. seen_at n (by_table table (store_of s)) (longer c q) (child_on c l m))) (sym top)
        ∙ ap (body_seen s table (place_of p)) (sym b)

    pub root_sees : (t : declared.Seen) → Sees s table (place_of p) (body_seen s table (place_of p) (body_in (slot_in counted i s))) t → Sees s table [] (seen (by_table table (store_of s)) v) t
    root_sees t h =
        let e = by_kind (is_leaf (slot_in counted i s)) root_leaf_is root_fork_is in
        subst (λ q. Sees s table q (seen (by_table table (store_of s)) v) t) top (subst (λ y. Sees s table (place_of p) y t) (sym e) h)

  -- a child
  module _ (table : List ℕ) (c : Child) (child : node_by table (store_of s) c.version (place_of p) ≡ o) (present : 1 ≤ c.version) where
    child_is : node_by table (store_of s) c.version (place_of p) ≡ matches it
    child_is = child ∙ is_found_lem

    child_leaf_is : is_leaf (slot_in counted i s) ≡ true → seen_below s table (place_of p) c ≡ body_seen s table (place_of p) (body_in (slot_in counted i s))
    unfolding seen_below
    child_leaf_is e =
        let b = leaf_body_lem (slot_in counted i s) e in
        rw b (child_leaf (by_table table (store_of s)) (place_of p) c (256 - length (place_of p)) it _ _ present child_is (holds ∙ b))

    child_fork_is : is_leaf (slot_in counted i s) ≡ false → seen_below s table (place_of p) c ≡ body_seen s table (place_of p) (body_in (slot_in counted i s))
    unfolding seen_below
    child_fork_is e =
        let b = inner_body_lem (slot_in counted i s) e in
        let n : 256 - length (place_of p) ≡ suc (255 - length (place_of p)) = omega (arith, short e) in
        rw (b, n) (child_fork (by_table table (store_of s)) (place_of p) c (255 - length (place_of p)) it _ _ present child_is (holds ∙ b))

    pub child_sees : (t : declared.Seen) → Sees s table (place_of p) (body_seen s table (place_of p) (body_in (slot_in counted i s))) t →
        Sees s table (place_of p) (seen_below s table (place_of p) c) t
    child_sees t h = subst (λ y. Sees s table (place_of p) y t) (sym (by_kind (is_leaf (slot_in counted i s)) child_leaf_is child_fork_is)) h

-- what an inner node has on a side is what is seen at the child's place
pub kid_seen : {b : Side} {p q : declared-place.Place} (s : Bytes) (table : List ℕ) (c : Child) → Grown b p q →
    seen_at (255 - length (place_of p)) (by_table table (store_of s)) (longer b (place_of p)) c ≡ seen_below s table (place_of q) c
unfolding seen_below
kid_seen {b} {p} {q} s table c g =
    let n : 255 - length (place_of p) ≡ 256 - length (place_of q) = omega (arith, ap length g.place ∙ length_longer b (place_of p)) in
    ap (λ l. seen_at (255 - length (place_of p)) (by_table table (store_of s)) l c) (sym g.place) ∙ ap (λ m. seen_at m (by_table table (store_of s)) (place_of q) c) n

-- version 0 is no child
pub child_none : (s : Bytes) (table : List ℕ) (p : Place) (c : Child) → c.version ≡ 0 → seen_below s table p c ≡ gap
unfolding seen_below
child_none s table p c e = child_gap (by_table table (store_of s)) p c (256 - length p) e

-- an inner node, a leaf whose key does not begin with its place, and one whose key does
module _ {s : Bytes} {i : ℕ} {p : declared-place.Place} (h : SlotHolds s i p) where
  -- What is seen there.
  abbrev Here : declared.Seen → Type 0
  Here t = SeesIn s i (place_of p) t

  pub inner_seen : {x : Bytes} {b : Bool} → x ≡ slot_in counted i s → b ≡ is_leaf x → b ≡ false → Here (Inner i)
  unfolding fork_at kid_in
  inner_seen q d e table =
      let f = ap is_leaf (sym q) ∙ sym d ∙ e in (
        h.slotted.inside,
        omega (arith, h.short f, proper_count p h.slotted.proper),
        ap (body_seen s table (place_of p)) (inner_body_lem (slot_in counted i s) f),
      )

  module _ {x k : Bytes} {b : Bool} (q : x ≡ slot_in counted i s) (d : b ≡ is_leaf x) (e : b ≡ true) (key : k ≡ key_in x) where
    its_body : body_in (slot_in counted i s) ≡ leaf_body (key_in (slot_in counted i s)) (value_inside (slot_in counted i s))
    its_body = leaf_body_lem (slot_in counted i s) (ap is_leaf (sym q) ∙ sym d ∙ e)

    its_key : {a : Bool} → a ≡ begins (place_of p) k → begins (place_of p) (key_in (slot_in counted i s)) ≡ a
    its_key f = ap (λ y. begins (place_of p) (key_in y)) (sym q) ∙ ap (begins (place_of p)) (sym key) ∙ sym f

    pub leaf_stray : {a : Bool} → a ≡ begins (place_of p) k → a ≡ false → Here (Stopped trouble.Stray)
    leaf_stray f g table = rw (its_body, its_key f, g)

    pub leaf_seen_lem : {a : Bool} → a ≡ begins (place_of p) k → a ≡ true → Here (Leaf i)
    unfolding leaf_at
    leaf_seen_lem f g table = (h.slotted.inside, rw (its_body, its_key f, g))
