-- What the tests of one record say: that it stands once, its life and its children, what its parents say of it, and that they cover its
-- life. Assumes nothing.
use Prim.Native.Nat.{ℕ, ◌≤◌}
use native.Mathlib.Omega.{arith}
use mathlib.Core.Path.{◌≡◌, refl, ap, sym, ◌∙◌, subst, subst₂}
use mathlib.Core.Logic.{◌⊎◌}
use mathlib.Core.Bool.{Bool, true, false, cond, not, false≢true}
use mathlib.Core.List.{[]}
use mathlib.Core.Option.{Option, none, some}
use lib.ListN.{length}
use Rattle.terms.specs.declared.Form.{Form}
use Rattle.terms.specs.declared.Form.TheVariants.{Plain as plain, Counted as counted}
use Rattle.terms.specs.Bits.{Bytes, Side, left, right, Place, longer, begins}
use Rattle.terms.specs.Records.{Child, Body, leaf_body, inner_body, Tally, no_tally, count_on, Record, Store}
use Rattle.terms.specs.Form.{top32}
use Rattle.meaning.specs.Store.{child_on, find, is_node}
use Rattle.meaning.specs.Reading.{body_hash}
use Rattle.meaning.specs.Sound.{At, most_slots, CountsAre}
use Rattle.meaning.specs.Local.{ends_before, child_version, LoneLeaf, weighed, counts_by}
use Rattle.meaning.proofs.Finding.{is_node_eq, is_node_refl}
use Rattle.local.specs.Test.{total, by_record, first_kept, names, lone_leaf, link_on, link_test, life_test, apart, root_apart, life_covered, kept_life, life_above, is_same, is_found, child_test, body_test, head_test, counts_are, count_is, counts_test}
use Rattle.local.proofs.Lifetimes.{Lifetime}
use Rattle.local.proofs.Parents.{AddsUp}
use Rattle.local.proofs.Records.{each_record}
use Rattle.local.proofs.InForm.{tally_says}
use Rattle.local.proofs.Says.{Says, says, itself, equal, at_most, less, either, neither, asked, branch, same, same_place_says, on_sides, done, next, both}

pub life_says : (st : Store) (r : Record) → Says (life_test st r) (Lifetime st r)
unfolding life_test
life_says st r =
    either (equal r.retired 0)
    (says (next (less r.version r.retired) (next (less st.oldest r.retired)
    (next (at_most r.retired st.latest) done))).all
    (λ h. (h.0, h.1.0, h.1.1.0)) (λ h. (h.0, (h.1, (h.2, tt)))))

-- q is no other root record that lives when r does
abbrev pub RootApart : Store → Record → Record → Type 0
RootApart st r q =
    q.place ≡ [] → (q.version ≡ r.version) ⊎ ((ends_before st q ≤ first_kept st r) ⊎ (ends_before st r ≤ first_kept st q))

root_apart_says : (st : Store) (r q : Record) → Says (root_apart st r q) (RootApart st r q)
unfolding root_apart apart
root_apart_says st r q =
    asked (same_place_says q.place [])
    (either (equal q.version r.version) (either (at_most (ends_before st q) (first_kept st r)) (at_most (ends_before st r) (first_kept st q))))

-- the lives of root records do not meet; the lifetimes of another record's parents add up to its own
abbrev pub Covered : Store → Record → Type 0
Covered st r =
    (r.place ≡ [] → (j : ℕ) (q : Record) → At st j q → RootApart st r q) × ((r.place ≡ [] → ⊥) → AddsUp st r)

pub covered_says : (st : Store) (r : Record) → Says (life_covered st r) (Covered st r)
unfolding life_covered
covered_says st r =
    branch (same_place_says r.place [])
    (each_record st (root_apart st r) (RootApart st r) (root_apart_says st r))
    (at_most (kept_life st r) (total (by_record 0 (life_above st r)) st.slots))

-- the counts are those that the records found as children say
counts_are_lem : (f : Form) (c d : Tally) → Says (counts_are f c d) (CountsAre f c d)
counts_are_lem plain c d = record { passed = λ h. tt; passes = λ h. refl }
counts_are_lem counted c d = tally_says c d

pub counts_say_lem : (st : Store) (r : Record) →
    Says (counts_test st r) (CountsAre st.form r.counts (counts_by st.slots r.place r.body))
unfolding counts_test
counts_say_lem st r = counts_are_lem st.form r.counts (counts_by st.slots r.place r.body)

-- by sides: where no record has version 0, the counts are right if each is what the record found as that child says
sides_counted : (f : Form) (c d : Tally) → ((b : Side) → count_is f (count_on b c) (count_on b d) ≡ true) → counts_are f c d ≡ true
sides_counted plain c d h = refl
sides_counted counted c d h = rw (h left, h right)

no_count : (b : Side) → count_on b no_tally ≡ 0
no_count false = refl
no_count true = refl

module _ (st : Store) (none-zero : (p : Place) → find 0 p st.slots ≡ none) where
  count_found : (b : Side) (p : Place) (o : Body) →
      count_on b (counts_by st.slots p o) ≡ weighed (find (child_version b o) (longer b p) st.slots)
  count_found b p (leaf_body k x) = no_count b ∙ sym (ap weighed (none-zero (longer b p)))
  count_found false p (inner_body l m) = refl
  count_found true p (inner_body l m) = refl

  pub counts_by_sides : (r : Record) →
      ((b : Side) → count_is st.form (count_on b r.counts) (weighed (find (child_version b r.body) (longer b r.place) st.slots)) ≡ true) →
      counts_test st r ≡ true
  unfolding counts_test
  counts_by_sides r h =
      sides_counted st.form r.counts (counts_by st.slots r.place r.body)
      (λ b. subst (λ n. count_is st.form (count_on b r.counts) n ≡ true) (sym (count_found b r.place r.body)) (h b))

-- a record's node, counted
pub node_counted : (r q : Record) → 1 ≤ is_same r q → (q.version ≡ r.version) × (q.place ≡ r.place)
unfolding is_same
node_counted r q h = go (is_node r.version r.place q) refl h
  where
    go : (t : Bool) → is_node r.version r.place q ≡ t → 1 ≤ cond t 1 0 → (q.version ≡ r.version) × (q.place ≡ r.place)
    go true e k = is_node_eq r.version r.place q e
    go false e k = absurd (omega arith)

pub counted_node : (r q : Record) → q.version ≡ r.version → q.place ≡ r.place → is_same r q ≡ 1
unfolding is_same
counted_node r q e f = rw (← e, ← f, is_node_refl q)

pub counted_once : (r q : Record) → is_same r q ≤ 1
unfolding is_same
counted_once r q = elim (is_node r.version r.place q) as (λ t. cond t 1 0 ≤ 1) [ true ↦ omega arith | false ↦ omega arith ]

found_says_lem : (o : Option Record) → Says (is_found o) ((r : Record) × (o ≡ some r))
found_says_lem none = record { passed = λ h. absurd (false≢true h); passes = λ h. let z : ◌≡◌ {A = ℕ} 0 1 = cc h.1 in absurd (omega arith) }
found_says_lem (some r) = record { passed = λ h. (r, refl); passes = λ h. refl }

module _ (st : Store) where
  -- a child is missing or found
  abbrev pub ChildFound : Place → Child → Type 0
  ChildFound p c = (c.version ≡ 0) ⊎ ((r : Record) × (find c.version p st.slots ≡ some r))

  child_says_lem : (p : Place) (c : Child) → Says (child_test st p c) (ChildFound p c)
  unfolding child_test
  child_says_lem p c = either (equal c.version 0) (found_says_lem (find c.version p st.slots))

  -- a leaf's key begins with its place; the children of an inner record are missing or found
  abbrev pub BodyFound : Place → Body → Type 0
  BodyFound p (leaf_body k x) = begins p k ≡ true
  BodyFound p (inner_body l r) = ChildFound (longer left p) l × ChildFound (longer right p) r

  pub body_says : (p : Place) (o : Body) → Says (body_test st p o) (BodyFound p o)
  body_says p (leaf_body k x) = itself (begins p k)
  body_says p (inner_body l r) = both (child_says_lem (longer left p) l) (child_says_lem (longer right p) r)

  pub head_says : Says (head_test st)
      (((1 ≤ length st.slots) × (length st.slots ≤ most_slots)) × ((st.oldest ≤ st.latest) × (st.latest ≤ top32)))
  unfolding head_test
  head_says =
      says (next (at_most 1 (length st.slots)) (next (at_most (length st.slots) most_slots)
      (next (at_most st.oldest st.latest) (next (at_most st.latest top32) done)))).all
      (λ h. ((h.0, h.1.0), (h.1.1.0, h.1.1.1.0))) (λ f. (f.0.0, (f.0.1, (f.1.0, (f.1.1, tt)))))

lone_says : (d : Child) (o : Body) → Says (lone_leaf d o) (LoneLeaf d o)
lone_says d (leaf_body k x) = equal d.version 0
lone_says d (inner_body l r) = record { passed = false≢true; passes = λ z. absurd z }

module _ (leaf_hash inner_hash : Bytes → Bytes → Bytes) (st : Store) where
  -- what a parent q, with the children l and m, says of r, its child on a side
  pub record Link (b : Side) (r q : Record) (l m : Child) : Type 0 where
    pub hash : body_hash leaf_hash inner_hash r.body ≡ (child_on b l m).hash
    pub begun : r.version ≤ first_kept st q
    pub ends : ends_before st q ≤ ends_before st r
    pub paired : LoneLeaf (child_on (not b) l m) r.body → ⊥

  same_link : (b : Side) (r q : Record) (l m x y : Child) → inner_body x y ≡ inner_body l m → Link b r q x y → Link b r q l m
  same_link b r q l m x y e k = let p : x ≡ l = cc in let s : y ≡ m = cc in subst₂ (Link b r q) p s k

  link_on_lem : (b : Side) (r q : Record) (o : Body) →
      Says (link_on leaf_hash inner_hash b st r q o) ((l m : Child) → o ≡ inner_body l m → names b q r ≡ true → Link b r q l m)
  link_on_lem b r q (leaf_body k x) =
      record { passed = λ h l m e. let z : ◌≡◌ {A = ℕ} 0 1 = cc in absurd (omega arith); passes = λ f. refl }
  link_on_lem b r q (inner_body x y) =
      says (asked (itself (names b q r))
      (next (same (body_hash leaf_hash inner_hash r.body) (child_on b x y).hash)
      (next (at_most r.version (first_kept st q))
      (next (at_most (ends_before st q) (ends_before st r)) (next (neither (lone_says (child_on (not b) x y) r.body)) done)))).all)
      (λ h l m e n.
      let k = h n in same_link b r q l m x y e (record { hash = k.0; begun = k.1.0; ends = k.1.1.0; paired = k.1.1.1.0 }))
      (λ f n. let k = f x y refl n in (k.hash, (k.begun, (k.ends, (k.paired, tt)))))

  pub link_says : (r q : Record) →
      Says (link_test leaf_hash inner_hash st r q) ((b : Side) (l m : Child) → q.body ≡ inner_body l m → names b q r ≡ true → Link b r q l m)
  unfolding link_test
  link_says r q =
      on_sides (λ b. link_on leaf_hash inner_hash b st r q q.body)
      (λ b. (l m : Child) → q.body ≡ inner_body l m → names b q r ≡ true → Link b r q l m)
      (λ b. link_on_lem b r q q.body)
