-- A store whose records are right one by one is sound. By induction on the bits left, the tree read at each record stands, with the hash
-- of the record's own fields; nodes below a living record live, since a child outlives its parent; and going up from parent to parent
-- each living record is reached from the root of that version. Assumes nothing.
use Prim.Native.Nat.{ℕ, zero, suc, ◌+◌, ◌-◌, ◌≤◌}
use native.Mathlib.Omega.{arith}
use mathlib.Core.Path.{◌≡◌, refl, ap, ap₂, sym, ◌∙◌, subst, subst₂}
use mathlib.Core.Logic.{inl, inr}
use mathlib.Core.Bool.{true, false, not}
use mathlib.Core.List.{[]}
use lib.ListN.{length}
use Rattle.terms.specs.declared.Form.TheVariants.{Counted as counted}
use Rattle.terms.specs.Bits.{Bytes, Side, left, right, Place, longer}
use Rattle.terms.specs.Records.{Child, child, Body, leaf_body, inner_body, tally, Record, Store, zeros}
use Rattle.terms.specs.Form.{ChildForm, BodyForm, CountsForm, place_limit}
use Rattle.terms.proofs.Places.{length_longer}
use Rattle.meaning.specs.Tree.{VTree, vnone, vleaf, vinner, top_version, leaves}
use Rattle.meaning.specs.Store.{child_on, find, tree_below, tree_from, tree_at_version, child_of, counts_of}
use Rattle.meaning.specs.Reading.{body_hash}
use Rattle.meaning.specs.Sound.{At, Found, CountsAre, Tallied, Stands, NodeOf, only_leaf, Sound}
use Rattle.meaning.specs.Local.{Local, Linked, missing, found, BodyFits, child_version, LoneLeaf, weighed, counts_by}
use Rattle.meaning.proofs.Counts.{counts_told, tell_counts, stands_weighs}
use Rattle.meaning.proofs.Finding.{same_record_lem, at_find, Within, there, go_kid, Some, some_body, within_node, within_trans, Last, empty, one_more, last}
use Rattle.local.proofs.Slots.{tree_on, RootCases, kids_from, no_version, kid_below, body_cases, root_cases, record_tree, root_tree}
use Rattle.local.proofs.Lifetimes.{Living, living_lives, lives_living, life_ends, root_living}

-- the record is a node of the tree t that stands at p
abbrev HasNode : Record → VTree → Place → Type 0
HasNode q t p = NodeOf q.version q.place t p

abbrev IsLeaf : VTree → Type 0
IsLeaf vnone = ⊥
IsLeaf (vleaf v g) = Unit {0}
IsLeaf (vinner v l r) = ⊥

no_lone_leaf : (l r : VTree) → (IsLeaf l → top_version r ≡ 0 → ⊥) → (IsLeaf r → top_version l ≡ 0 → ⊥) → only_leaf l r ≡ false
no_lone_leaf vnone vnone f g = refl
no_lone_leaf vnone (vleaf w x) f g = absurd (g tt refl)
no_lone_leaf vnone (vinner w x y) f g = refl
no_lone_leaf (vleaf w x) vnone f g = absurd (f tt refl)
no_lone_leaf (vleaf w x) (vleaf u y) f g = refl
no_lone_leaf (vleaf w x) (vinner u y z) f g = refl
no_lone_leaf (vinner w x y) t f g = refl

child_eq : (c : Child) (v : ℕ) (h : Bytes) → v ≡ c.version → h ≡ c.hash → child v h ≡ c
child_eq c v h a b = λ j. record { version = a j; hash = b j }

child_form : (b : Side) (l r : Child) → BodyForm (inner_body l r) → ChildForm (child_on b l r)
child_form false l r f = f.0
child_form true l r f = f.1

-- the tree at the child that a body names on a side
body_kid : (b : Side) (o : Body) (w x : ℕ) (p : Place) (below : Side → ℕ → VTree) →
    child_version b o ≡ w → 1 ≤ w → Within (below b w) (longer b p) (tree_below x o below) p
body_kid b (leaf_body k y) w x p below e h = absurd (omega arith)
body_kid b (inner_body l r) w x p below e h =
    go_kid b (subst (λ t. Within (below b w) (longer b p) t (longer b p)) (ap (below b) (sym e) ∙ sym (kid_below b x l r below)) there)

module _ (leaf_hash inner_hash : Bytes → Bytes → Bytes) (st : Store) where
  -- the child on a side is linked
  pub linked_on : (b : Side) (r : Record) (x y : Child) → BodyFits leaf_hash inner_hash st r (inner_body x y) →
      Linked leaf_hash inner_hash st r (longer b r.place) (child_on b x y) (child_on (not b) x y)
  linked_on false r x y f = f.0
  linked_on true r x y f = f.1

module _ (leaf_hash inner_hash : Bytes → Bytes → Bytes) (st : Store) (ok : Local leaf_hash inner_hash st) where
  -- what is shown of the tree at a child c, beside d
  record ChildStands (p : Place) (c d : Child) (t : VTree) : Type 0 where
    stands : Stands leaf_hash inner_hash st p t
    says : child_of leaf_hash inner_hash t ≡ c
    fits : IsLeaf t → d.version ≡ 0 → ⊥

  -- what is shown of the tree at a record
  record RecordStands (r : Record) (t : VTree) : Type 0 where
    stands : Stands leaf_hash inner_hash st r.place t
    says : child_of leaf_hash inner_hash t ≡ child r.version (body_hash leaf_hash inner_hash r.body)
    fits : (d : Child) → IsLeaf t → d.version ≡ 0 → LoneLeaf d r.body
    counts : st.form ≡ counted → r.counts ≡ counts_of t

  -- from the tree at each record to the tree at a child
  child_stands : (n : ℕ) (r : Record) (p : Place) (c d : Child) → ChildForm c → length p + n ≡ 256 →
      ((i : ℕ) (q : Record) → At st i q → length q.place + n ≡ 256 → RecordStands q (tree_on n st q)) →
      Linked leaf_hash inner_hash st r p c d → ChildStands p c d (tree_from n st.slots c.version p)
  unfolding child_of
  child_stands n r p c d form h ih (missing e) =
      subst (ChildStands p c d) (sym (ap (λ w. tree_from n st.slots w p) e ∙ no_version n st.slots p))
      (record { stands = tt; says = child_eq c 0 zeros (sym e) (sym (form.missing e)); fits = λ k. absurd k })
  child_stands n r p c d form h ih (found i q a pl ve ha ol un only) =
      let u : RecordStands q (tree_on n st q) = ih i q a (rw pl h) in
      subst (ChildStands p c d) (ap₂ (tree_from n st.slots) ve pl)
      (record {
        stands = subst (λ s. Stands leaf_hash inner_hash st s (tree_on n st q)) pl u.stands;
        says = u.says ∙ child_eq c q.version _ ve ha;
        fits = λ k z. only (u.fits d k z);
      })

  -- what is found as a child says how many leaves are there
  child_weighs : (p : Place) (c d : Child) (t : VTree) → st.form ≡ counted → ChildStands p c d t →
      weighed (find c.version p st.slots) ≡ leaves t
  unfolding child_of
  child_weighs p c d t f k =
      ap (λ x. weighed (find x.version p st.slots)) (sym k.says)
      ∙ stands_weighs leaf_hash inner_hash st f (λ i r a. (ok.versions i r a).0) p t k.stands

  -- from the trees at its children to the tree at a record
  body_stands : (i : ℕ) (r : Record) → At st i r → (o : Body) → r.body ≡ o → BodyFits leaf_hash inner_hash st r o →
      (below : Side → ℕ → VTree) →
      ((x y : Child) → o ≡ inner_body x y → (b : Side) →
      ChildStands (longer b r.place) (child_on b x y) (child_on (not b) x y) (below b (child_on b x y).version)) →
      RecordStands r (tree_below r.version o below)
  unfolding child_of Found Tallied
  body_stands i r a (leaf_body k x) e fit below kids = record {
    stands = ((r, at_find st ok.unique i r a, e), fit);
    says = rw e;
    fits = λ d t z. rw e z;
    counts = λ f. subst (λ o. CountsForm o r.counts) e (ok.formed i r a).counts;
  }
  body_stands i r a (inner_body x y) e fit below kids =
      let l = kids x y refl left in
      let m = kids x y refl right in
      let told : st.form ≡ counted → r.counts ≡ tally (leaves (below left x.version)) (leaves (below right y.version)) = λ f.
      counts_told st.form f (subst (λ o. CountsAre st.form r.counts (counts_by st.slots r.place o)) e (ok.counts i r a))
      ∙ ap₂ tally (child_weighs _ x y _ f l) (child_weighs _ y x _ f m) in
      record {
        stands = (
          (r, at_find st ok.unique i r a, e ∙ sym (ap₂ inner_body l.says m.says)),
          no_lone_leaf (below left x.version) (below right y.version)
              (λ t z. l.fits t (sym (ap (λ c. c.version) m.says) ∙ z))
              (λ t z. m.fits t (sym (ap (λ c. c.version) l.says) ∙ z)),
          l.stands,
          m.stands,
          (r, at_find st ok.unique i r a, tell_counts st.form told),
        );
        says = rw e (ap₂ (λ u w. child r.version (inner_hash u w)) (ap (λ c. c.hash) l.says) (ap (λ c. c.hash) m.says));
        fits = λ d t z. absurd t;
        counts = told;
      }

  -- an inner record's place has bits left
  inner_short : (i : ℕ) (r : Record) (x y : Child) → At st i r → r.body ≡ inner_body x y → length r.place ≤ 255
  inner_short i r x y a e = subst (λ o. length r.place ≤ place_limit o) e (ok.formed i r a).short

  -- the tree at each record
  record_stands : (n i : ℕ) (r : Record) → At st i r → length r.place + n ≡ 256 → RecordStands r (tree_on n st r)
  record_stands zero i r a h =
      subst (RecordStands r) (sym (record_tree st ok.unique ok.versions 0 i r a))
      (body_stands i r a r.body refl (ok.bodies i r a) _ (λ x y e b. absurd (omega (arith, inner_short i r x y a e))))
  record_stands (suc n) i r a h =
      subst (RecordStands r) (sym (record_tree st ok.unique ok.versions (suc n) i r a))
      (body_stands i r a r.body refl (ok.bodies i r a) _ (λ x y e b.
      child_stands n r (longer b r.place) (child_on b x y) (child_on (not b) x y)
      (child_form b x y (subst BodyForm e (ok.formed i r a).body))
      (omega (arith, length_longer b r.place))
      (record_stands n)
      (linked_on leaf_hash inner_hash st b r x y (subst (BodyFits leaf_hash inner_hash st r) e (ok.bodies i r a)))))

  -- in the counted form a record's counts are the numbers of leaves below its children
  pub record_counts : (n i : ℕ) (r : Record) → At st i r → length r.place + n ≡ 256 → st.form ≡ counted → r.counts ≡ counts_of (tree_on n st r)
  record_counts n i r a h f = (record_stands n i r a h).counts f

  -- each version's tree stands
  root_stands : (v : ℕ) → Stands leaf_hash inner_hash st [] (tree_at_version st v)
  root_stands v = go 256 refl (root_cases st v)
    where
      go : (n : ℕ) → n ≡ 256 → RootCases st v →
          Stands leaf_hash inner_hash st [] (tree_at_version st v)
      go n e (inl k) = subst (Stands leaf_hash inner_hash st []) (sym k) tt
      go n e (inr k) =
          subst₂ (Stands leaf_hash inner_hash st) k.4 (root_tree st ok.unique ok.versions n v k.0 k.1 e k.2 k.3 k.4)
          (record_stands n k.0 k.1 k.2 (omega (arith, ap length k.4))).stands

  module _ (v : ℕ) (low : st.oldest ≤ v) where
    -- a child lives at each kept version of its parent's life, and so do the nodes below it
    child_lives : (n : ℕ) (r : Record) (p : Place) (c d : Child) → length p + n ≡ 256 → Living st v r → (j : ℕ) (q : Record) → At st j q →
        ((i : ℕ) (k : Record) → At st i k → length k.place + n ≡ 256 → Living st v k →
        HasNode q (tree_on n st k) k.place → Living st v q) →
        Linked leaf_hash inner_hash st r p c d → HasNode q (tree_from n st.slots c.version p) p → Living st v q
    child_lives n r p c d h live j q at ih (missing e) nd =
        absurd (subst (λ t. HasNode q t p) (ap (λ w. tree_from n st.slots w p) e ∙ no_version n st.slots p) nd)
    child_lives n r p c d h live j q at ih (found i k a pl ve ha ol un only) nd =
        ih i k a (rw pl h) (omega arith)
        (subst₂ (λ x y. HasNode q (tree_from n st.slots x y) y) (sym ve) (sym pl) nd)

    body_lives : (n i : ℕ) (r : Record) → At st i r → Living st v r → (j : ℕ) (q : Record) → At st j q →
        ((x y : Child) → r.body ≡ inner_body x y → (b : Side) →
        HasNode q (kids_from n st.slots r.place b (child_on b x y).version) (longer b r.place) → Living st v q) →
        HasNode q (tree_on n st r) r.place → Living st v q
    body_lives n i r a live j q at kids nd =
        elim (body_cases q.version r.version q.place r.place r.body (kids_from n st.slots r.place)
        (subst (λ t. HasNode q t r.place) (record_tree st ok.unique ok.versions n i r a) nd)) [
          | inl e ↦ subst (Living st v) (same_record_lem st ok.unique i j r q a at e.0 e.1) live
          | inr e ↦ kids e.0 e.1 e.2 e.3 e.4
        ]

    -- the nodes below a record that lives at v live at v
    below_lives : (n i : ℕ) (r : Record) → At st i r → length r.place + n ≡ 256 → Living st v r → (j : ℕ) (q : Record) → At st j q →
        HasNode q (tree_on n st r) r.place → Living st v q
    below_lives zero i r a h live j q at nd = body_lives 0 i r a live j q at (λ x y e b m. absurd m) nd
    below_lives (suc n) i r a h live j q at nd =
        body_lives (suc n) i r a live j q at (λ x y e b m.
        child_lives n r (longer b r.place) (child_on b x y) (child_on (not b) x y) (omega (arith, length_longer b r.place)) live j q at
        (λ k c d g l. below_lives n k c d g l j q at)
        (linked_on leaf_hash inner_hash st b r x y (subst (BodyFits leaf_hash inner_hash st r) e (ok.bodies i r a))) m) nd

    -- the tree at a record stands in the tree of v
    Reached : Record → Type 0
    Reached r = (n : ℕ) → length r.place + n ≡ 256 → Within (tree_on n st r) r.place (tree_at_version st v) []

    root_reached : (i : ℕ) (r : Record) → At st i r → r.place ≡ [] → Living st v r → Reached r
    unfolding Reached
    root_reached i r a e live n h =
        let f = life_ends st r ok.header.0 (ok.versions i r a).1 (ok.lifetimes i r a) in
        let root = ok.roots v (low, omega arith) i r a e (living_lives st r v live) in
        subst₂ (λ x p. Within x p (tree_at_version st v) [])
        (sym (root_tree st ok.unique ok.versions n v i r (omega (arith, ap length e)) a root e)) (sym e) there

    kid_reached : (i j : ℕ) (r q : Record) (b : Side) → At st i r → At st j q →
        r.place ≡ longer b q.place → child_version b q.body ≡ r.version → Reached q → Reached r
    unfolding Reached
    kid_reached i j r q b a c e f up n h =
        within_trans
        (subst₂ (λ p t. Within (tree_from n st.slots r.version p) p t q.place) (sym e)
        (sym (record_tree st ok.unique ok.versions (suc n) j q c))
        (body_kid b q.body r.version q.version q.place (kids_from (suc n) st.slots q.place) f (ok.versions i r a).0))
        (up (suc n) (omega (arith, ap length e, length_longer b q.place)))

    -- a record that lives at v is reached from the root of v, by way of its parents
    parent_reached : (m i : ℕ) (r : Record) → At st i r → Living st v r →
        ((j : ℕ) (q : Record) → At st j q → suc (length q.place) ≡ m → Living st v q → Reached q) →
        (p : Place) → r.place ≡ p → Last p → length p ≡ m → Reached r
    parent_reached m i r a live ih p e empty h = root_reached i r a e live
    parent_reached m i r a live ih p e (one_more b q) h =
        let u = ok.parents i r q b a e v low live.0 live.1 in
        kid_reached i u.0 r u.1 b a u.2 (e ∙ ap (longer b) (sym u.3)) u.5
        (ih u.0 u.1 u.2 (omega (arith, length_longer b q, ap length u.3)) u.4)

    reached : (m i : ℕ) (r : Record) → At st i r → length r.place ≡ m → Living st v r → Reached r
    reached zero i r a h live = parent_reached 0 i r a live (λ j q c k l. absurd (omega arith)) r.place refl (last r.place) h
    reached (suc m) i r a h live =
        parent_reached (suc m) i r a live (λ j q c k l. reached m j q c (omega arith) l) r.place refl (last r.place) h

    -- so a record is a node of the tree of v exactly if it lives at v
    living_node : (n i : ℕ) (r : Record) → At st i r → length r.place + n ≡ 256 → Living st v r → HasNode r (tree_at_version st v) []
    unfolding Reached
    living_node n i r a h live =
        let e = record_tree st ok.unique ok.versions n i r a in
        let s = some_body r.version r.body (kids_from n st.slots r.place) in
        subst (λ w. NodeOf w r.place (tree_at_version st v) []) (ap top_version e ∙ s.1)
        (within_node (subst Some (sym e) s.0) (reached _ i r a refl live n h))

    node_living : v ≤ st.latest → (j : ℕ) (q : Record) → At st j q → HasNode q (tree_at_version st v) [] → Living st v q
    node_living high j q at nd = go 256 refl (root_cases st v)
      where
        go : (n : ℕ) → n ≡ 256 → RootCases st v → Living st v q
        go n e (inl k) = absurd (subst (λ t. HasNode q t []) k nd)
        go n e (inr k) =
            below_lives n k.0 k.1 k.2 (omega (arith, ap length k.4))
            (root_living st v (low, high) k.1 k.3) j q at
            (subst₂ (λ t p. HasNode q t p) (sym (root_tree st ok.unique ok.versions n v k.0 k.1 e k.2 k.3 k.4)) (sym k.4) nd)

  limit : (o : Body) → place_limit o ≤ 256
  limit (leaf_body k x) = omega arith
  limit (inner_body l r) = omega arith

  pub local_is_sound : Sound leaf_hash inner_hash st
  local_is_sound = record {
    size = ok.size;
    header = ok.header;
    whole = ok.whole;
    formed = ok.formed;
    unique = ok.unique;
    versions = ok.versions;
    lifetimes = ok.lifetimes;
    stands = λ v k. root_stands v;
    exact = λ v k i r a. (
      λ nd. living_lives st r v (node_living v k.0 k.1 i r a nd),
      λ l.
          living_node v k.0 (256 - length r.place) i r a (omega (arith, (ok.formed i r a).short, limit r.body))
          (lives_living st r v k.1 l),
    );
  }
