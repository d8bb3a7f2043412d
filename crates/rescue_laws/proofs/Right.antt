-- A tree is right exactly if its top record is right by itself and so is what stands on each side. Left and right are said once, by the
-- child and its sibling. Assumes nothing.
use Prim.Native.Nat.{ℕ, zero, suc, ◌+◌, ◌≤◌}
use native.Mathlib.Omega.{arith}
use mathlib.Core.Path.{◌≡◌, refl, ap, ap₂, sym, ◌∙◌, subst}
use mathlib.Core.Logic.{◌↔◌}
use mathlib.Core.Bool.{true, false, not, true≢false, false≢true}
use mathlib.Core.List.{List}
use mathlib.Core.Option.{Option, none, some, some-injective}
use lib.ListN.{length}
use borrow.Author.Tests.{eqb-true, eq-eqb, ne_eqb}
use Rattle.terms.specs.declared.Form.TheVariants.{Counted as counted}
use Rattle.terms.specs.Bits.{Bytes, Side, left, right, Place, longer, same_bytes}
use Rattle.terms.specs.Records.{Child, Body, leaf_body, inner_body, tally, Record, Slot, free, used}
use Rattle.terms.specs.Form.{ChildForm, place_limit, BodyForm, CountsForm}
use Rattle.terms.proofs.Tests.{and_left, and_right, same_bytes_lem, bytes_same}
use Rattle.terms.proofs.Members.{get_d_in}
use Rattle.meaning.specs.Tree.{hash, VTree, vnone, vleaf, vinner, top_version, leaves, kid, unversioned}
use Rattle.meaning.specs.Store.{find, tree_below, tree_found, tree_from, child_of}
use Rattle.meaning.specs.Sound.{At, Found, Tallied, Stands, only_leaf}
use Rattle.meaning.specs.Reading.{body_hash}
use Rattle.meaning.specs.Local.{child_version, weighed, counts_by}
use Rattle.meaning.proofs.Finding.{is_node_eq}
use Rattle.meaning.proofs.Counts.{found_counts, stands_weighs}
use Rattle.histories.proofs.Slots.{find_has, none_find}
use Rattle.histories.proofs.Standing.{Formed}
use Rattle.local.specs.Test.{lone_leaf, counts_are}
use Rattle.local.proofs.InForm.{tally_says}
use Rattle.local.proofs.Slots.{kids_from, no_version}
use Rattle.rescue_rules.specs.Joining.{source, kid_of, linked, body_right, record_right}

-- a tree that would be a lone leaf beside the child d
abbrev LoneTree : Child → VTree → Type 0
LoneTree d vnone = ⊥
LoneTree d (vleaf v g) = d.version ≡ 0
LoneTree d (vinner v l r) = ⊥

only_leaf_lem : (t u : VTree) (c d : Child) → top_version t ≡ c.version → top_version u ≡ d.version →
    (LoneTree d t → ⊥) → (LoneTree c u → ⊥) → only_leaf t u ≡ false
only_leaf_lem vnone vnone c d e f x y = refl
only_leaf_lem vnone (vleaf v g) c d e f x y = absurd (y (sym e))
only_leaf_lem vnone (vinner v l r) c d e f x y = refl
only_leaf_lem (vleaf v g) vnone c d e f x y = absurd (x (sym f))
only_leaf_lem (vleaf v g) (vleaf w h) c d e f x y = refl
only_leaf_lem (vleaf v g) (vinner w l r) c d e f x y = refl
only_leaf_lem (vinner v l r) u c d e f x y = refl

leaf_sym : (t u : VTree) → only_leaf t u ≡ only_leaf u t
leaf_sym vnone vnone = refl
leaf_sym vnone (vleaf v g) = refl
leaf_sym vnone (vinner v l r) = refl
leaf_sym (vleaf v g) vnone = refl
leaf_sym (vleaf v g) (vleaf w h) = refl
leaf_sym (vleaf v g) (vinner w l r) = refl
leaf_sym (vinner v l r) vnone = refl
leaf_sym (vinner v l r) (vleaf w h) = refl
leaf_sym (vinner v l r) (vinner w x y) = refl

not_lone : (t u : VTree) (d : Child) → only_leaf t u ≡ false → top_version u ≡ d.version → (top_version u ≡ 0 → u ≡ vnone) → LoneTree d t → ⊥
not_lone vnone u d h e f k = k
not_lone (vleaf v g) u d h e f k = true≢false (subst (λ x. only_leaf (vleaf v g) x ≡ false) (f (e ∙ k)) h)
not_lone (vinner v l r) u d h e f k = k

module _ (s : List Slot) (z : Formed s) where
  pub no_zero : (p : Place) → find 0 p s ≡ none
  no_zero p = none_find 0 p s (λ r h n. let w = is_node_eq 0 p r n in let u = (z r h).versioned in omega arith)

  -- the tree at a version and place is read from what is found there
  pub tree_found_lem : (n v : ℕ) (p : Place) → tree_from n s v p ≡ tree_found (find v p s) (kids_from n s p)
  tree_found_lem n zero p = no_version n s p ∙ sym (ap (λ o. tree_found o (kids_from n s p)) (no_zero p))
  tree_found_lem zero (suc v) p = rw (ne_eqb (suc v) 0 (λ e. omega arith))
  tree_found_lem (suc n) (suc v) p = rw (ne_eqb (suc v) 0 (λ e. omega arith))

  no_kids : (n : ℕ) (p : Place) (b : Side) → kids_from n s p b 0 ≡ vnone
  no_kids zero p b = refl
  no_kids (suc n) p b = no_version n s (longer b p)

  -- what stands on a side
  pub kid_found : (n : ℕ) (p : Place) (b : Side) (o : Option Record) → kid b (tree_found o (kids_from n s p)) ≡ kids_from n s p b (kid_of b o)
  kid_found n p b none = sym (no_kids n p b)
  kid_found n p b (some r) = go b r.body
    where
      go : (b : Side) (c : Body) → kid b (tree_below r.version c (kids_from n s p)) ≡ kids_from n s p b (child_version b c)
      go b (leaf_body k x) = sym (no_kids n p b)
      go false (inner_body c d) = refl
      go true (inner_body c d) = refl

module _ (leaf_hash inner_hash : Bytes → Bytes → Bytes) (s : List Slot) (z : Formed s) where
  abbrev Standing : Place → VTree → Type 0
  Standing p t = Stands leaf_hash inner_hash (source s) p t

  abbrev child_at : VTree → Child
  child_at t = child_of leaf_hash inner_hash t

  -- a tree with this version at its top stands
  pub record RightAt (v : ℕ) (p : Place) (t : VTree) : Type 0 where
    pub version : top_version t ≡ v
    pub stands : Standing p t

  pub none_right : (p : Place) → RightAt 0 p vnone
  none_right p = record { version = refl; stands = tt }

  -- what the record of a standing tree's top holds
  abbrev Holds : VTree → Body → Type 0
  Holds vnone c = ⊥
  Holds (vleaf v g) c = c ≡ leaf_body g.key g.value
  Holds (vinner v l r) c = c ≡ inner_body (child_at l) (child_at r)

  found_one : (v x : ℕ) (p : Place) (c : Body) (q : Record) → x ≡ v → find v p s ≡ some q → Found (source s) x p c → q.body ≡ c
  unfolding Found
  found_one v x p c q e f (r, g, h) = ap (λ y. y.body) (some-injective q r (sym f ∙ ap (λ y. find y p s) (sym e) ∙ g)) ∙ h

  -- where a record is found, a right tree is there and tells what the record holds
  holds : (v : ℕ) (p : Place) (t : VTree) (q : Record) → find v p s ≡ some q → RightAt v p t → Holds t q.body
  holds v p vnone q f r = let w = find_has v p s q f in let u = (z q w.0).versioned in absurd (omega (arith, w.1, r.version))
  holds v p (vleaf x g) q f r = found_one v x p _ q r.version f r.stands.0
  holds v p (vinner x a b) q f r = found_one v x p _ q r.version f r.stands.0

  holds_hash : (t : VTree) (c : Body) → Holds t c → body_hash leaf_hash inner_hash c ≡ hash leaf_hash inner_hash (unversioned t)
  unfolding child_of
  holds_hash vnone c h = absurd h
  holds_hash (vleaf v g) c h = ap (body_hash leaf_hash inner_hash) h
  holds_hash (vinner v l r) c h = ap (body_hash leaf_hash inner_hash) h

  holds_lone : (t : VTree) (c : Body) (d : Child) → Holds t c → LoneTree d t → lone_leaf d c ≡ true
  holds_lone vnone c d h k = absurd h
  holds_lone (vleaf v g) c d h k = rw (h, k) refl
  holds_lone (vinner v l r) c d h k = absurd k

  lone_holds : (t : VTree) (c : Body) (d : Child) → Holds t c → (LoneTree d t → ⊥) → not (lone_leaf d c) ≡ true
  lone_holds vnone c d h k = absurd h
  lone_holds (vleaf v g) c d h k = rw (h, ne_eqb d.version 0 k) refl
  lone_holds (vinner v l r) c d h k = rw h refl

  child_is : (c d : Child) → c.version ≡ d.version → c.hash ≡ d.hash → c ≡ d
  child_is c d e f = λ j. record { version = e j; hash = f j }

  pub none_top : (v : ℕ) (p : Place) (t : VTree) → RightAt v p t → top_version t ≡ 0 → t ≡ vnone
  unfolding Found
  none_top v p vnone r e = refl
  none_top v p (vleaf x g) r e =
      let w = find_has x p s r.stands.0.0 r.stands.0.1 in let u = (z r.stands.0.0 w.0).versioned in absurd (omega (arith, w.1))
  none_top v p (vinner x a b) r e =
      let w = find_has x p s r.stands.0.0 r.stands.0.1 in let u = (z r.stands.0.0 w.0).versioned in absurd (omega (arith, w.1))

  -- a child c, beside d, whose tree is t
  module _ (p : Place) (c d : Child) (form : ChildForm c) (t : VTree) (miss : find c.version p s ≡ none → t ≡ vnone) where
    link_into : linked leaf_hash inner_hash (find c.version p s) c d ≡ true → RightAt c.version p t →
        (child_at t ≡ c) × (LoneTree d t → ⊥)
    unfolding child_of
    link_into h r = go (find c.version p s) refl h
      where
        go : (o : Option Record) → find c.version p s ≡ o → linked leaf_hash inner_hash o c d ≡ true → (child_at t ≡ c) × (LoneTree d t → ⊥)
        go none e k =
            let v = eqb-true c.version 0 k in
            (rw (miss e) (child_is (child_at vnone) c (sym v) (sym (form.missing v))), λ y. subst (LoneTree d) (miss e) y)
        go (some q) e k =
            let b = same_bytes (body_hash leaf_hash inner_hash q.body) c.hash in
            let w = holds c.version p t q e r in (
              child_is (child_at t) c r.version (sym (holds_hash t q.body w) ∙ same_bytes_lem _ c.hash (and_left b (not (lone_leaf d q.body)) k)),
              λ y. false≢true (sym (ap not (holds_lone t q.body d w y)) ∙ and_right b (not (lone_leaf d q.body)) k),
            )

    link_back : child_at t ≡ c → RightAt c.version p t → (LoneTree d t → ⊥) → linked leaf_hash inner_hash (find c.version p s) c d ≡ true
    unfolding child_of
    link_back e r f = go (find c.version p s) refl
      where
        go : (o : Option Record) → find c.version p s ≡ o → linked leaf_hash inner_hash o c d ≡ true
        go none g = eq-eqb c.version 0 (sym r.version ∙ ap top_version (miss g))
        go (some q) g =
            let w = holds c.version p t q g r in
            rw (holds_hash t q.body w ∙ ap (λ y. y.hash) e, bytes_same c.hash) (lone_holds t q.body d w f)

  -- an inner record stands less than 256 bits deep
  pub inner_length : (v : ℕ) (p : Place) (r : Record) (c d : Child) → find v p s ≡ some r → r.body ≡ inner_body c d → length p ≤ 255
  inner_length v p r c d e g =
      let w = find_has v p s r e in
      let h : length r.place ≤ 255 = subst (λ y. length r.place ≤ place_limit y) g (z r w.0).short in
      omega (arith, ap length w.2)

  module _ (n v : ℕ) (p : Place) (len : length p + n ≡ 256) where
    no_kids_right : (b : Side) → RightAt 0 (longer b p) (kids_from n s p b 0)
    no_kids_right b = subst (RightAt 0 (longer b p)) (sym (no_kids s z n p b)) (none_right (longer b p))

  miss_none : (n v : ℕ) (p : Place) → find v p s ≡ none → tree_from n s v p ≡ vnone
  miss_none n v p e = tree_found_lem s z n v p ∙ ap (λ o. tree_found o (kids_from n s p)) e

  -- what is found at the top of a right tree says how many leaves it has
  weighs : (v : ℕ) (p : Place) (t : VTree) → RightAt v p t → weighed (find v p s) ≡ leaves t
  unfolding At
  weighs v p t r =
      ap (λ x. weighed (find x p s)) (sym r.version) ∙ stands_weighs leaf_hash inner_hash (source s) refl versions p t r.stands
    where
      versions : (i : ℕ) (q : Record) → At (source s) i q → 1 ≤ q.version
      versions i q a = (z q (get_d_in s i free (used q) a.0 a.1)).versioned.0

  body_into : (n v : ℕ) (p : Place) → length p + n ≡ 256 → (r : Record) → find v p s ≡ some r → (c : Body) → r.body ≡ c →
      body_right leaf_hash inner_hash s p c ≡ true → r.counts ≡ counts_by s p c → ((b : Side) → RightAt (child_version b c) (longer b p) (kids_from n s p b (child_version b c))) →
      RightAt v p (tree_below r.version c (kids_from n s p))
  unfolding Found Tallied
  body_into n v p len r e (leaf_body k x) g h m kids =
      let w = find_has v p s r e in
      record { version = w.1; stands = ((r, ap (λ y. find y p s) w.1 ∙ e, g), h) }
  body_into zero v p len r e (inner_body c d) g h m kids = absurd (omega (arith, inner_length v p r c d e g))
  body_into (suc n) v p len r e (inner_body c d) g h m kids =
      let w = find_has v p s r e in
      let form : BodyForm (inner_body c d) = subst BodyForm g (z r w.0).body in
      let t = tree_from n s c.version (longer left p) in
      let u = tree_from n s d.version (longer right p) in
      let x = linked leaf_hash inner_hash (find c.version (longer left p) s) c d in
      let y = linked leaf_hash inner_hash (find d.version (longer right p) s) d c in
      let a = link_into (longer left p) c d form.0 t (miss_none n c.version (longer left p)) (and_left x y h) (kids left) in
      let b = link_into (longer right p) d c form.1 u (miss_none n d.version (longer right p)) (and_right x y h) (kids right) in
      record {
        version = w.1;
        stands = (
          (r, ap (λ y. find y p s) w.1 ∙ e, g ∙ sym (ap₂ inner_body a.0 b.0)),
          only_leaf_lem t u c d (kids left).version (kids right).version a.1 b.1,
          (kids left).stands,
          (kids right).stands,
          (r, ap (λ y. find y p s) w.1 ∙ e, m ∙ ap₂ tally (weighs c.version (longer left p) t (kids left)) (weighs d.version (longer right p) u (kids right))),
        );
      }

  inner_eq : (a b c d : Child) → inner_body a b ≡ inner_body c d → (a ≡ c) × (b ≡ d)
  inner_eq a b c d e = (cc, cc)

  body_back : (n v : ℕ) (p : Place) → length p + n ≡ 256 → (r : Record) → find v p s ≡ some r → (c : Body) → r.body ≡ c →
      RightAt v p (tree_below r.version c (kids_from n s p)) →
      (body_right leaf_hash inner_hash s p c ≡ true)
      × (r.counts ≡ counts_by s p c)
      × ((b : Side) → RightAt (child_version b c) (longer b p) (kids_from n s p b (child_version b c)))
  body_back n v p len r e (leaf_body k x) g h =
      (h.stands.1, subst (λ o. CountsForm o r.counts) g (z r (find_has v p s r e).0).counts, no_kids_right n v p len)
  body_back zero v p len r e (inner_body c d) g h = absurd (omega (arith, inner_length v p r c d e g))
  body_back (suc n) v p len r e (inner_body c d) g h = go
    where
      unfold_child : (t : VTree) → (child_at t).version ≡ top_version t
      unfold_child t = unfold child_of in refl

      t : VTree
      t = tree_from n s c.version (longer left p)

      u : VTree
      u = tree_from n s d.version (longer right p)

      form : BodyForm (inner_body c d)
      form = subst BodyForm g (z r (find_has v p s r e).0).body

      same : (c ≡ child_at t) × (d ≡ child_at u)
      same = inner_eq c d (child_at t) (child_at u) (sym g ∙ found_one v r.version p _ r h.version e h.stands.0)

      one : RightAt c.version (longer left p) t
      one = record { version = sym (unfold_child t) ∙ sym (ap (λ y. y.version) same.0); stands = h.stands.2 }

      two : RightAt d.version (longer right p) u
      two = record { version = sym (unfold_child u) ∙ sym (ap (λ y. y.version) same.1); stands = h.stands.3 }

      go : (body_right leaf_hash inner_hash s p (inner_body c d) ≡ true)
          × (r.counts ≡ counts_by s p (inner_body c d))
          × ((b : Side) → RightAt (child_version b (inner_body c d)) (longer b p) (tree_from n s (child_version b (inner_body c d)) (longer b p)))
      go = (
        rw (link_back (longer left p) c d form.0 t (miss_none n c.version (longer left p)) (sym same.0) one
            (not_lone t u d h.stands.1 two.version (none_top d.version (longer right p) u two)))
            (link_back (longer right p) d c form.1 u (miss_none n d.version (longer right p)) (sym same.1) two
            (not_lone u t c (leaf_sym u t ∙ h.stands.1) one.version (none_top c.version (longer left p) t one))),
        found_counts (source s) refl r.version p _ r (ap (λ y. find y p s) h.version ∙ e) h.stands.4 ∙ sym (ap₂ tally (weighs c.version (longer left p) t one) (weighs d.version (longer right p) u two)),
        λ b. elim b as (λ b. RightAt (child_version b (inner_body c d)) (longer b p) (tree_from n s (child_version b (inner_body c d)) (longer b p)))
            [ true ↦ two | false ↦ one ],
      )

  -- a tree is right exactly if its top record is, and what stands on each side
  pub right_parts : (n v : ℕ) (p : Place) → length p + n ≡ 256 →
      RightAt v p (tree_from n s v p)
      ↔ ((record_right leaf_hash inner_hash s v p (find v p s) ≡ true)
      × ((b : Side) → RightAt (kid_of b (find v p s)) (longer b p) (kids_from n s p b (kid_of b (find v p s)))))
  right_parts n v p len = rw (tree_found_lem s z n v p) (go (find v p s) refl)
    where
      go : (o : Option Record) → find v p s ≡ o →
          RightAt v p (tree_found o (kids_from n s p))
          ↔ ((record_right leaf_hash inner_hash s v p o ≡ true) × ((b : Side) → RightAt (kid_of b o) (longer b p) (kids_from n s p b (kid_of b o))))
      go none e = (λ r. (eq-eqb v 0 (sym r.version), no_kids_right n v p len), λ h. record { version = sym (eqb-true v 0 h.0); stands = tt })
      go (some r) e = (
        λ h.
            let b = body_back n v p len r e r.body refl h in
            (rw b.0 ((tally_says r.counts (counts_by s p r.body)).passes b.1), b.2),
        λ h.
            let right = body_right leaf_hash inner_hash s p r.body in
            let counted = counts_are counted r.counts (counts_by s p r.body) in
            body_into n v p len r e r.body refl (and_left right counted h.0)
            ((tally_says r.counts (counts_by s p r.body)).passed (and_right right counted h.0)) h.1,
      )
