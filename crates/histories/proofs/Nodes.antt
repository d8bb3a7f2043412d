-- The records of a tree are its nodes, each once: records of two children begin with different places, and records below a node have
-- longer places. Assumes nothing.
use Prim.Native.Nat.{ℕ, ◌<◌}
use native.Mathlib.Omega.{arith}
use mathlib.Core.Path.{◌≡◌, refl, ap, sym, ◌∙◌, subst₂}
use mathlib.Core.Logic.{◌⊎◌, inl, inr}
use mathlib.Core.Bool.{Bool, true, false, cond, ◌||◌, false≢true}
use mathlib.Core.List.{List, [], ◌∷◌, ◌++◌}
use lib.ListN.{length}
use borrow.Author.Tests.{eqb-true, eq-eqb}
use Rattle.terms.specs.Bits.{Bytes, Side, left, right, Place, longer, filter, prefix}
use Rattle.terms.specs.Records.{Record, Body, leaf_body, inner_body}
use Rattle.terms.proofs.Lists.{all_append, all_filter}
use Rattle.terms.proofs.Places.{length_longer, prefix_longer, prefix_self, prefix_length}
use Rattle.terms.proofs.Members.{In, in_left, in_right, in_append, in_filter, filter_in, all_in}
use Rattle.meaning.specs.Tree.{VTree, vnone, vleaf, vinner, top_version, kid}
use Rattle.meaning.specs.Store.{is_node, has_node, child_of, counts_of, record_at, records_below, records_of, new_records}
use Rattle.meaning.specs.Sound.{NodeOf}
use Rattle.meaning.proofs.Finding.{Within, there, go_kid, Some, some_leaf, some_inner, within_node, is_node_eq}
use Rattle.histories.proofs.Slots.{is_node_lem, not_node}
use Rattle.histories.proofs.Writing.{Not, Distinct, New}

-- places

sides_apart : (p q : Place) → prefix (longer left p) q ≡ true → prefix (longer right p) q ≡ true → ⊥
sides_apart p q h k = false≢true (sym (prefix_longer left p q h).1 ∙ (prefix_longer right p q k).1)

within_prefix : {u : VTree} {q : Place} {t : VTree} {p : Place} → Within u q t p → prefix p q ≡ true
within_prefix {q = q} there = prefix_self q
within_prefix {q = q} (go_kid b {p = p} w) = (prefix_longer b p q (within_prefix w)).0

-- hasNode is a search by version and place

has_node_lem : (r x : Record) (xs : List Record) → In x xs → r.version ≡ x.version → r.place ≡ x.place → has_node r xs ≡ true
has_node_lem r x [] h e f = absurd h
has_node_lem r x (y ∷ xs) (inl k) e f = rw (is_node_lem r y (e ∙ sym (ap (λ u. u.version) k)) (f ∙ sym (ap (λ u. u.place) k)))
has_node_lem r x (y ∷ xs) (inr h) e f = go (is_node r.version r.place y) (has_node_lem r x xs h e f)
  where
    go : (b : Bool) {c : Bool} → c ≡ true → b || c ≡ true
    go true k = refl
    go false k = k

node_has : (r : Record) (xs : List Record) → has_node r xs ≡ true →
    (x : Record) × In x xs × (x.version ≡ r.version) × (x.place ≡ r.place)
node_has r [] h = absurd (false≢true h)
node_has r (y ∷ xs) h = go (λ k. node_has r xs k) (is_node r.version r.place y) refl h
  where
    go : (has_node r xs ≡ true → (x : Record) × In x xs × (x.version ≡ r.version) × (x.place ≡ r.place)) →
        (b : Bool) → is_node r.version r.place y ≡ b → b || has_node r xs ≡ true →
        (x : Record) × In x (y ∷ xs) × (x.version ≡ r.version) × (x.place ≡ r.place)
    go ih true e k = let w = is_node_eq r.version r.place y e in (y, inl refl, w.0, w.1)
    go ih false e k = let m = ih k in (m.0, inr m.1, m.2, m.3)

-- lists of records with no node twice

abbrev Apart : List Record → List Record → Type 0
Apart xs ys = (x y : Record) → In x xs → In y ys → x.place ≡ y.place → ⊥

distinct_append : (xs ys : List Record) → Distinct xs → Distinct ys → Apart xs ys → Distinct (xs ++ ys)
distinct_append [] ys a b f = b
distinct_append (x ∷ xs) ys a b f = (
  all_append (Not x.version x.place) xs ys a.0
      (all_in _ ys (λ y h. not_node x.version x.place y (λ e g. f x y (inl refl) h (sym g)))),
  distinct_append xs ys a.1 b (λ u y h k. f u y (inr h) k),
)

distinct_filter : (f : Record → Bool) (xs : List Record) → Distinct xs → Distinct (filter f xs)
distinct_filter f [] d = tt
distinct_filter f (x ∷ xs) d =
    elim (f x) as (λ b. Distinct (cond b (x ∷ filter f xs) (filter f xs)))
    [ true ↦ (all_filter (Not x.version x.place) f xs d.0, distinct_filter f xs d.1) | false ↦ distinct_filter f xs d.1 ]

module _ (leaf_hash inner_hash : Bytes → Bytes → Bytes) where
  -- what the record of a node holds
  abbrev pub body_of : VTree → Body
  body_of vnone = leaf_body [] []
  body_of (vleaf v g) = leaf_body g.key g.value
  body_of (vinner v l r) = inner_body (child_of leaf_hash inner_hash l) (child_of leaf_hash inner_hash r)

  -- x is the record of the node u at q, not retired
  pub record IsRecord (x : Record) (q : Place) (u : VTree) : Type 0 where
    pub some : Some u
    pub place : x.place ≡ q
    pub version : x.version ≡ top_version u
    pub retired : x.retired ≡ 0
    pub body : x.body ≡ body_of u
    pub counts : x.counts ≡ counts_of u

  abbrev written : Place → VTree → Record
  written q u = record { place = q; version = top_version u; retired = 0; body = body_of u; counts = counts_of u }

  is_written : (x : Record) (q : Place) (u : VTree) → Some u → written q u ≡ x → IsRecord x q u
  is_written x q u s e = record {
    some = s;
    place = sym (ap (λ r. r.place) e);
    version = sym (ap (λ r. r.version) e);
    retired = sym (ap (λ r. r.retired) e);
    body = sym (ap (λ r. r.body) e);
    counts = sym (ap (λ r. r.counts) e);
  }

  at_is : (x : Record) (q : Place) (u : VTree) → In x (record_at leaf_hash inner_hash q u) → IsRecord x q u
  at_is x q vnone h = absurd h
  at_is x q (vleaf v g) (inl e) = is_written x q (vleaf v g) some_leaf e
  at_is x q (vleaf v g) (inr h) = absurd h
  at_is x q (vinner v l r) (inl e) = is_written x q (vinner v l r) some_inner e
  at_is x q (vinner v l r) (inr h) = absurd h

  -- the records of a tree at a place
  abbrev pub records_at : Place → VTree → List Record
  records_at p t = records_below leaf_hash inner_hash p t ++ record_at leaf_hash inner_hash p t

  pub top_record : (p : Place) (u : VTree) → Some u →
      (x : Record) × In x (records_at p u) × (x.version ≡ top_version u) × (x.place ≡ p) × (x.body ≡ body_of u) × (x.counts ≡ counts_of u)
  top_record p vnone s = elim s [ ]
  top_record p (vleaf v g) s = (_, inl refl, refl, refl, refl, refl)
  top_record p (vinner v l r) s = (_, in_right _ (records_below leaf_hash inner_hash p (vinner v l r)) _ (inl refl), refl, refl, refl, refl)

  -- strictly below a node are the records of its children, in four parts: those strictly below the left and the right child, and these
  module _ (p : Place) (v : ℕ) (l r : VTree) where
    abbrev below_left_lem : List Record
    below_left_lem = records_below leaf_hash inner_hash (longer left p) l

    abbrev below_right : List Record
    below_right = records_below leaf_hash inner_hash (longer right p) r

    abbrev at_left : List Record
    at_left = record_at leaf_hash inner_hash (longer left p) l

    abbrev at_right : List Record
    at_right = record_at leaf_hash inner_hash (longer right p) r

    -- a record of the child on a side
    abbrev OfKid : Side → Record → Type 0
    OfKid b x = In x (records_at (longer b p) (kid b (vinner v l r)))

    below_cases : (x : Record) → In x (records_below leaf_hash inner_hash p (vinner v l r)) → (b : Side) × OfKid b x
    below_cases x h = last (in_append x (below_left_lem ++ below_right ++ at_left) at_right h)
      where
        first : In x below_left_lem ⊎ In x below_right → (b : Side) × OfKid b x
        first (inl k) = (left, in_left x below_left_lem at_left k)
        first (inr k) = (right, in_left x below_right at_right k)

        middle : In x (below_left_lem ++ below_right) ⊎ In x at_left → (b : Side) × OfKid b x
        middle (inl k) = first (in_append x below_left_lem below_right k)
        middle (inr k) = (left, in_right x below_left_lem at_left k)

        last : In x (below_left_lem ++ below_right ++ at_left) ⊎ In x at_right → (b : Side) × OfKid b x
        last (inl k) = middle (in_append x (below_left_lem ++ below_right) at_left k)
        last (inr k) = (right, in_right x below_right at_right k)

    below_kid : (b : Side) (x : Record) → OfKid b x → In x (records_below leaf_hash inner_hash p (vinner v l r))
    below_kid false x h = in_left x (below_left_lem ++ below_right ++ at_left) at_right (elim (in_append x below_left_lem at_left h) [
      | inl i ↦ in_left x (below_left_lem ++ below_right) at_left (in_left x below_left_lem below_right i)
      | inr i ↦ in_right x (below_left_lem ++ below_right) at_left i
    ])
    below_kid true x h = elim (in_append x below_right at_right h) [
      | inl i ↦
          in_left x (below_left_lem ++ below_right ++ at_left) at_right
          (in_left x (below_left_lem ++ below_right) at_left (in_right x below_left_lem below_right i))
      | inr i ↦ in_right x (below_left_lem ++ below_right ++ at_left) at_right i
    ]

  pub kid_records : (b : Side) (x : Record) (p : Place) (v : ℕ) (l r : VTree) → In x (records_at (longer b p) (kid b (vinner v l r))) →
      In x (records_at p (vinner v l r))
  kid_records b x p v l r h = in_left x (records_below leaf_hash inner_hash p (vinner v l r)) _ (below_kid p v l r b x h)

  -- a record of a tree is the record of a node of it
  pub record Origin (x : Record) (t : VTree) (p : Place) : Type 0 where
    pub place : Place
    pub tree : VTree
    pub within : Within tree place t p
    pub is : IsRecord x place tree

  pub origin : (x : Record) (p : Place) (t : VTree) → In x (records_at p t) → Origin x t p
  origin x p vnone h = absurd h
  origin x p (vleaf v g) h = record { place = p; tree = vleaf v g; within = there; is = at_is x p (vleaf v g) h }
  origin x p (vinner v l r) h =
      go (in_append x (records_below leaf_hash inner_hash p (vinner v l r)) (record_at leaf_hash inner_hash p (vinner v l r)) h)
      (λ k. origin x (longer left p) l k) (λ k. origin x (longer right p) r k)
    where
      on : (b : Side) → Origin x (kid b (vinner v l r)) (longer b p) → Origin x (vinner v l r) p
      on b o = record { place = o.place; tree = o.tree; within = go_kid b o.within; is = o.is }

      kids : (b : Side) → In x (records_at (longer b p) (kid b (vinner v l r))) →
          (In x (records_at (longer left p) l) → Origin x l (longer left p)) →
          (In x (records_at (longer right p) r) → Origin x r (longer right p)) →
          Origin x (vinner v l r) p
      kids false k f g = on left (f k)
      kids true k f g = on right (g k)

      go : In x (records_below leaf_hash inner_hash p (vinner v l r)) ⊎ In x (record_at leaf_hash inner_hash p (vinner v l r)) →
          (In x (records_at (longer left p) l) → Origin x l (longer left p)) →
          (In x (records_at (longer right p) r) → Origin x r (longer right p)) →
          Origin x (vinner v l r) p
      go (inl k) f g = let c = below_cases p v l r x k in kids c.0 c.1 f g
      go (inr k) f g = record { place = p; tree = vinner v l r; within = there; is = at_is x p (vinner v l r) k }

  pub origin_node : (x : Record) (p : Place) (t : VTree) → Origin x t p → NodeOf x.version x.place t p
  origin_node x p t o = subst₂ (λ v q. NodeOf v q t p) (sym o.is.version) (sym o.is.place) (within_node o.is.some o.within)

  -- and each node has its record
  node_record : (w : ℕ) (q : Place) (t : VTree) (p : Place) → NodeOf w q t p →
      (x : Record) × In x (records_at p t) × (x.version ≡ w) × (x.place ≡ q)
  node_record w q vnone p n = absurd n
  node_record w q (vleaf v g) p n = (_, inl refl, n.0, n.1)
  node_record w q (vinner v l r) p (inl n) =
      let m = top_record p (vinner v l r) some_inner in (m.0, m.1, m.2 ∙ n.0, m.3 ∙ n.1)
  node_record w q (vinner v l r) p (inr (inl n)) =
      let m = node_record w q l (longer left p) n in (m.0, kid_records left m.0 p v l r m.1, m.2, m.3)
  node_record w q (vinner v l r) p (inr (inr n)) =
      let m = node_record w q r (longer right p) n in (m.0, kid_records right m.0 p v l r m.1, m.2, m.3)

  -- each once
  records_prefix : (x : Record) (p : Place) (t : VTree) → In x (records_at p t) → prefix p x.place ≡ true
  records_prefix x p t h = let o = origin x p t h in rw o.is.place (within_prefix o.within)

  below_deeper : (x : Record) (p : Place) (t : VTree) → In x (records_below leaf_hash inner_hash p t) → length p < length x.place
  below_deeper x p vnone h = absurd h
  below_deeper x p (vleaf v g) h = absurd h
  below_deeper x p (vinner v l r) h =
      let c = below_cases p v l r x h in
      let b = c.0 in
      omega (arith, prefix_length (longer b p) x.place (records_prefix x (longer b p) (kid b (vinner v l r)) c.1), length_longer b p)

  distinct_at : (p : Place) (t : VTree) → Distinct (record_at leaf_hash inner_hash p t)
  distinct_at p vnone = tt
  distinct_at p (vleaf v g) = (tt, tt)
  distinct_at p (vinner v l r) = (tt, tt)

  below_apart : (p : Place) (t : VTree) → Apart (records_below leaf_hash inner_hash p t) (record_at leaf_hash inner_hash p t)
  below_apart p t x y h k e = omega (arith, below_deeper x p t h, ap length e, ap length (at_is y p t k).place)

  kids_apart : (p : Place) (l r : VTree) → Apart (records_at (longer left p) l) (records_at (longer right p) r)
  kids_apart p l r x y h k e =
      sides_apart p y.place (rw (sym e) (records_prefix x (longer left p) l h)) (records_prefix y (longer right p) r k)

  distinct_kids : (p : Place) (v : ℕ) (l r : VTree) →
      Distinct (records_below leaf_hash inner_hash (longer left p) l) → Distinct (records_below leaf_hash inner_hash (longer right p) r) →
      Distinct (records_below leaf_hash inner_hash p (vinner v l r))
  distinct_kids p v l r dl dr =
      distinct_append (bl ++ br ++ al) ar
      (distinct_append (bl ++ br) al (distinct_append bl br dl dr below_below) (distinct_at (longer left p) l) below_left)
      (distinct_at (longer right p) r) all_right
    where
      bl : List Record
      bl = below_left_lem p v l r

      br : List Record
      br = below_right p v l r

      al : List Record
      al = at_left p v l r

      ar : List Record
      ar = at_right p v l r

      below_below : Apart bl br
      below_below x y h k = kids_apart p l r x y (in_left x bl al h) (in_left y br ar k)

      below_left : Apart (bl ++ br) al
      below_left x y h k e = elim (in_append x bl br h) [
        | inl a ↦ below_apart (longer left p) l x y a k e
        | inr a ↦ kids_apart p l r y x (in_right y bl al k) (in_left x br ar a) (sym e)
      ]

      all_right : Apart (bl ++ br ++ al) ar
      all_right x y h k e = elim (in_append x (bl ++ br) al h) [
        | inl a ↦ elim (in_append x bl br a) [
          | inl b ↦ kids_apart p l r x y (in_left x bl al b) (in_right y br ar k) e
          | inr b ↦ below_apart (longer right p) r x y b k e
        ]
        | inr a ↦ kids_apart p l r x y (in_right x bl al a) (in_right y br ar k) e
      ]

  distinct_below : (p : Place) (t : VTree) → Distinct (records_below leaf_hash inner_hash p t)
  distinct_below p vnone = tt
  distinct_below p (vleaf v g) = tt
  distinct_below p (vinner v l r) = distinct_kids p v l r (distinct_below (longer left p) l) (distinct_below (longer right p) r)

  -- at the root
  pub has_node_node : (r : Record) (t : VTree) → has_node r (records_of leaf_hash inner_hash t) ≡ true → NodeOf r.version r.place t []
  unfolding records_of
  has_node_node r t h =
      let m = node_has r (records_at [] t) h in
      subst₂ (λ v q. NodeOf v q t []) m.2 m.3 (origin_node m.0 [] t (origin m.0 [] t m.1))

  pub node_has_node : (r : Record) (t : VTree) → NodeOf r.version r.place t [] → has_node r (records_of leaf_hash inner_hash t) ≡ true
  unfolding records_of
  node_has_node r t n =
      let m = node_record r.version r.place t [] n in has_node_lem r m.0 (records_at [] t) m.1 (sym m.2) (sym m.3)

  pub new_distinct : (new : ℕ) (t : VTree) → Distinct (new_records leaf_hash inner_hash new t)
  unfolding new_records records_of
  new_distinct new t =
      distinct_filter _ (records_at [] t)
      (distinct_append (records_below leaf_hash inner_hash [] t) (record_at leaf_hash inner_hash [] t)
      (distinct_below [] t) (distinct_at [] t) (below_apart [] t))

  pub new_in : (new : ℕ) (t : VTree) (x : Record) → In x (new_records leaf_hash inner_hash new t) → In x (records_at [] t) × New new x
  unfolding new_records records_of
  new_in new t x h = let m = in_filter x _ (records_at [] t) h in (m.0, eqb-true x.version new m.1)

  pub in_new : (new : ℕ) (t : VTree) (x : Record) → In x (records_at [] t) → New new x → In x (new_records leaf_hash inner_hash new t)
  unfolding new_records records_of
  in_new new t x h e = filter_in x _ (records_at [] t) h (eq-eqb x.version new e)
