-- The distinct records of a range of kept versions are the slots whose lifetime meets the range: a record is a node of some tree of the range exactly if it
-- lives at some version of it. Assumes nothing.
use Prim.Native.Nat.{ℕ, zero, suc, ◌+◌, ◌-◌, ◌<◌, ◌≤◌, max}
use native.Mathlib.Omega.{arith}
use mathlib.Core.Path.{◌≡◌, refl, ap, ap₂, sym, ◌∙◌, subst}
use mathlib.Core.Logic.{◌⊎◌, inl, inr}
use mathlib.Core.Bool.{Bool, true, false, cond, ◌&&◌, ◌||◌, or-true, true≢false, false≢true}
use mathlib.Core.List.{List, [], ◌∷◌, ◌++◌}
use mathlib.Core.Option.{some}
use lib.Dec.{eqb, leb}
use borrow.Author.Tests.{eqb-true, eq-eqb, leb-true, le-leb, not-true}
use Rattle.terms.specs.Bits.{Bytes, left, right, Place, longer, same_place}
use Rattle.terms.specs.Records.{Record, Slot, Store}
use Rattle.terms.proofs.Tests.{and_left, and_right, or_cases, same_place_lem, place_same}
use Rattle.meaning.specs.Tree.{VTree, vnone, vleaf, vinner}
use Rattle.meaning.specs.Store.{is_node, find, tree_at_version, retired_by}
use Rattle.meaning.specs.Sound.{NodeOf, Lives, Kept}
use Rattle.meaning.proofs.Finding.{is_node_eq, is_node_refl}
use Rattle.histories.proofs.Slots.{Has, Unique, unique_find}
use Rattle.histories.proofs.Standing.{node_found}
use Rattle.histories.proofs.Whole.{Whole, retired_later, not_retired}
use Rattle.quarter.specs.Figures.{versions_from, versions, nodes, among, different, nodes_over}
use Rattle.quarter.specs.Living.{lives_in, only_if, over_slots, living_records}
use Rattle.quarter.proofs.Slots.{over_same, over_none, over_either, over_one}
use Rattle.quarter.proofs.Trees.{added, same_test}

or_left : (a b : Bool) → a ≡ true → a || b ≡ true
or_left a b e = rw e refl

or_right : (a b : Bool) → b ≡ true → a || b ≡ true
or_right a b e = rw e (or-true a)

-- nodes in lists
abbrev Node : Type 0
Node = ℕ × Place

abbrev node : ℕ → Place → Node
node v p = (v, p)

abbrev same_nodes_lem : Node → Node → Bool
same_nodes_lem n m = eqb n.0 m.0 && same_place n.1 m.1

same_nodes : (n m : Node) → same_nodes_lem n m ≡ true → (n.0 ≡ m.0) × (n.1 ≡ m.1)
same_nodes n m h = (
  eqb-true n.0 m.0 (and_left (eqb n.0 m.0) (same_place n.1 m.1) h),
  same_place_lem n.1 m.1 (and_right (eqb n.0 m.0) (same_place n.1 m.1) h),
)

nodes_same : (n m : Node) → n.0 ≡ m.0 → n.1 ≡ m.1 → same_nodes_lem n m ≡ true
nodes_same n m e f = rw (e, f, eq-eqb m.0 m.0 refl) (place_same m.1)

among_append : (n : Node) (xs ys : List Node) → among n (xs ++ ys) ≡ true → (among n xs ≡ true) ⊎ (among n ys ≡ true)
among_append n [] ys h = inr h
among_append n (x ∷ xs) ys h = elim (or_cases (same_nodes_lem n x) (among n (xs ++ ys)) h) [
  | inl k ↦ inl (or_left (same_nodes_lem n x) (among n xs) k)
  | inr k ↦ elim (among_append n xs ys k) [ inl m ↦ inl (or_right (same_nodes_lem n x) (among n xs) m) | inr m ↦ inr m ]
]

among_left : (n : Node) (xs ys : List Node) → among n xs ≡ true → among n (xs ++ ys) ≡ true
among_left n [] ys h = absurd (false≢true h)
among_left n (x ∷ xs) ys h = elim (or_cases (same_nodes_lem n x) (among n xs) h) [
  | inl k ↦ or_left (same_nodes_lem n x) (among n (xs ++ ys)) k
  | inr k ↦ or_right (same_nodes_lem n x) (among n (xs ++ ys)) (among_left n xs ys k)
]

among_right : (n : Node) (xs ys : List Node) → among n ys ≡ true → among n (xs ++ ys) ≡ true
among_right n [] ys h = h
among_right n (x ∷ xs) ys h = or_right (same_nodes_lem n x) (among n (xs ++ ys)) (among_right n xs ys h)

-- the nodes of a tree are its nodes
among_node : (n : Node) (p : Place) (t : VTree) → among n (nodes p t) ≡ true → NodeOf n.0 n.1 t p
among_node n p vnone h = absurd (false≢true h)
among_node n p (vleaf v g) h = elim (or_cases (same_nodes_lem n (node v p)) false h) [
  | inl k ↦ let e = same_nodes n (node v p) k in (sym e.0, sym e.1)
  | inr k ↦ absurd (false≢true k)
]
among_node n p (vinner v l r) h =
    elim (or_cases (same_nodes_lem n (node v p)) (among n (nodes (longer left p) l ++ nodes (longer right p) r)) h) [
      | inl k ↦ let e = same_nodes n (node v p) k in inl (sym e.0, sym e.1)
      | inr k ↦ inr (elim (among_append n (nodes (longer left p) l) (nodes (longer right p) r) k) [
        | inl m ↦ inl (among_node n (longer left p) l m)
        | inr m ↦ inr (among_node n (longer right p) r m)
      ])
    ]

node_among : (n : Node) (p : Place) (t : VTree) → NodeOf n.0 n.1 t p → among n (nodes p t) ≡ true
node_among n p vnone h = absurd h
node_among n p (vleaf v g) h = or_left (same_nodes_lem n (node v p)) false (nodes_same n (node v p) (sym h.0) (sym h.1))
node_among n p (vinner v l r) (inl h) =
    or_left (same_nodes_lem n (node v p)) (among n (nodes (longer left p) l ++ nodes (longer right p) r)) (nodes_same n (node v p) (sym h.0) (sym h.1))
node_among n p (vinner v l r) (inr (inl h)) =
    or_right (same_nodes_lem n (node v p)) (among n (nodes (longer left p) l ++ nodes (longer right p) r))
    (among_left n (nodes (longer left p) l) (nodes (longer right p) r) (node_among n (longer left p) l h))
node_among n p (vinner v l r) (inr (inr h)) =
    or_right (same_nodes_lem n (node v p)) (among n (nodes (longer left p) l ++ nodes (longer right p) r))
    (among_right n (nodes (longer left p) l) (nodes (longer right p) r) (node_among n (longer right p) r h))

-- the nodes of some tree of the k versions from v on
module _ (st : Store) (n : Node) where
  over_some : (k v : ℕ) → among n (nodes_over st (versions_from v k)) ≡ true →
      (u : ℕ) × (v ≤ u) × (u < v + k) × NodeOf n.0 n.1 (tree_at_version st u) []
  over_some zero v h = absurd (false≢true h)
  over_some (suc k) v h = elim (among_append n (nodes [] (tree_at_version st v)) (nodes_over st (versions_from (suc v) k)) h) [
    | inl m ↦ (v, omega arith, omega arith, among_node n [] (tree_at_version st v) m)
    | inr m ↦ let r = over_some k (suc v) m in (r.0, omega (arith, r.1), omega (arith, r.2), r.3)
  ]

  some_over : (k v u : ℕ) → v ≤ u → u < v + k → NodeOf n.0 n.1 (tree_at_version st u) [] → among n (nodes_over st (versions_from v k)) ≡ true
  some_over zero v u a b h = absurd (omega arith)
  some_over (suc k) v u a b h = go (eqb v u) refl (λ c. some_over k (suc v) u c (omega arith) h)
    where
      go : (t : Bool) → eqb v u ≡ t → (suc v ≤ u → among n (nodes_over st (versions_from (suc v) k)) ≡ true) →
          among n (nodes_over st (versions_from v (suc k))) ≡ true
      go true e rest =
          among_left n (nodes [] (tree_at_version st v)) (nodes_over st (versions_from (suc v) k))
          (node_among n [] (tree_at_version st v) (subst (λ x. NodeOf n.0 n.1 (tree_at_version st x) []) (sym (eqb-true v u e)) h))
      go false e rest =
          among_right n (nodes [] (tree_at_version st v)) (nodes_over st (versions_from (suc v) k))
          (rest (let d : v ≡ u → ⊥ = λ x. true≢false (sym (eq-eqb v u x) ∙ e) in omega arith))

-- how many different nodes a list has, where each is a record's
abbrev named : Record → Node
named r = node r.version r.place

module _ (s : List Slot) (u : Unique s) where
  pub different_counts : (ns : List Node) → ((n : Node) → among n ns ≡ true → (r : Record) × (find n.0 n.1 s ≡ some r)) →
      over_slots ◌+◌ (only_if (λ r. among (named r) ns) (λ r. 1)) s ≡ different ns
  different_counts [] f = over_none ◌+◌ added (λ r. false) (λ r. 1) s (λ r h. refl)
  different_counts (n ∷ ns) f = go (among n ns) refl (different_counts ns (λ m h. f m (or_right (same_nodes_lem m n) (among m ns) h)))
    where
      is_head : (r : Record) → same_nodes_lem (named r) n ≡ true → among (named r) ns ≡ among n ns
      is_head r k = let e = same_nodes (named r) n k in ap₂ (λ v p. among (node v p) ns) e.0 e.1

      go : (b : Bool) → among n ns ≡ b → over_slots ◌+◌ (only_if (λ r. among (named r) ns) (λ r. 1)) s ≡ different ns →
          over_slots ◌+◌ (only_if (λ r. among (named r) (n ∷ ns)) (λ r. 1)) s ≡ cond b (different ns) (suc (different ns))
      go true e rest =
          over_same ◌+◌ added _ _ s (λ r h. ap (λ b. cond b 1 0) (same_test (among (named r) (n ∷ ns)) (among (named r) ns)
          (λ k. elim (or_cases (same_nodes_lem (named r) n) (among (named r) ns) k) [ inl m ↦ is_head r m ∙ e | inr m ↦ m ])
          (λ k. or_right (same_nodes_lem (named r) n) (among (named r) ns) k)))
          ∙ rest
      go false e rest =
          let found = f n (or_left (same_nodes_lem n n) (among n ns) (nodes_same n n refl refl)) in
          over_either ◌+◌ added (is_node n.0 n.1) (λ r. among (named r) ns) (λ r. among (named r) (n ∷ ns)) (λ r. 1) s
          (λ r k. elim (or_cases (same_nodes_lem (named r) n) (among (named r) ns) k) [
            | inl m ↦ let w = same_nodes (named r) n m in inl (rw (← w.0, ← w.1) (is_node_refl r))
            | inr m ↦ inr m
          ])
          (λ r k. let w = is_node_eq n.0 n.1 r k in or_left (same_nodes_lem (named r) n) (among (named r) ns) (nodes_same (named r) n w.0 w.1))
          (λ r k. or_right (same_nodes_lem (named r) n) (among (named r) ns) k)
          (λ r k m.
          let w = is_node_eq n.0 n.1 r k in
          true≢false (sym m ∙ ap₂ (λ v p. among (node v p) ns) w.0 w.1 ∙ e))
          ∙ ap₂ ◌+◌ (over_one ◌+◌ added (λ r. 1) n.0 n.1 s found.0 u found.1) rest
          ∙ omega arith

module _ (leaf_hash inner_hash : Bytes → Bytes → Bytes) (st : Store) (w : Whole leaf_hash inner_hash st) (first last : ℕ) (a : Kept st first) (b : Kept st last) (h : first ≤ last) where
  kept : (u : ℕ) → first ≤ u → u ≤ last → Kept st u
  kept u f g = (omega (arith, a.0), omega (arith, b.1))

  -- a record lives at some version of the range exactly if its lifetime meets it
  meets : (r : Record) (u : ℕ) → first ≤ u → u ≤ last → Lives u r → lives_in first last r ≡ true
  unfolding lives_in
  meets r u f g l =
      rw (le-leb r.version last (omega (arith, l.0)), not_retired first r (λ k. omega (arith, retired_later u r l.1 k))) refl

  lives_at : (r : Record) → Has r st.slots → lives_in first last r ≡ true → Lives (max first r.version) r
  unfolding lives_in
  lives_at r k l = (
    omega arith,
    not_retired (max first r.version) r (λ c.
        let d = retired_later first r (not-true (retired_by first r) (and_right (leb r.version last) _ l)) c in
        elim (w.lifetimes r k) [ inl z ↦ absurd (omega (arith, c, z)) | inr z ↦ omega (arith, d, z.0) ]),
  )

  by_last : (r : Record) → lives_in first last r ≡ true → r.version ≤ last
  unfolding lives_in
  by_last r e = leb-true r.version last (and_left (leb r.version last) _ e)

  in_range : (r : Record) → Has r st.slots → among (named r) (nodes_over st (versions first last)) ≡ lives_in first last r
  unfolding versions
  in_range r k =
      same_test (among (named r) (nodes_over st (versions first last))) (lives_in first last r)
      (λ e.
      let m = over_some st (named r) (suc last - first) first e in
      let g : m.0 ≤ last = omega (arith, m.2) in
      meets r m.0 m.1 g ((w.exact m.0 (kept m.0 m.1 g) r k).0 m.3))
      (λ e.
      let u = max first r.version in
      let v : r.version ≤ last = by_last r e in
      some_over st (named r) (suc last - first) first u (omega arith) (omega arith)
      ((w.exact u (kept u (omega arith) (omega arith)) r k).1 (lives_at r k e)))

  node_record : (n : Node) → among n (nodes_over st (versions first last)) ≡ true → (r : Record) × (find n.0 n.1 st.slots ≡ some r)
  unfolding versions
  node_record n e =
      let m = over_some st n (suc last - first) first e in
      let g : m.0 ≤ last = omega (arith, m.2) in
      let (r, k, v, p) = node_found leaf_hash inner_hash st n.0 n.1 [] (tree_at_version st m.0) (w.stands m.0 (kept m.0 m.1 g)) m.3 in
      (r, ap₂ (λ x q. find x q st.slots) (sym v) (sym p) ∙ unique_find st.slots r w.unique k)

  pub distinct_live : living_records first last st.slots ≡ different (nodes_over st (versions first last))
  unfolding living_records
  distinct_live =
      over_same ◌+◌ added _ _ st.slots (λ r k. ap (λ t. cond t 1 0) (sym (in_range r k)))
      ∙ different_counts st.slots w.unique (nodes_over st (versions first last)) node_record
