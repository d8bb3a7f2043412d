-- Two trees compared place by place: where the versions are the same the subtrees are, elsewhere each side is compared by itself. So the
-- test decides whether the first tree is right and lacks nothing of the second but what is of the next version. Assumes nothing.
use Prim.Native.Nat.{ℕ, zero, suc, ◌+◌}
use native.Mathlib.Omega.{arith}
use mathlib.Core.Path.{◌≡◌, refl, ap, sym, ◌∙◌, subst}
use mathlib.Core.Logic.{◌↔◌, ◌⊎◌, inl, inr}
use mathlib.Core.Bool.{Bool, true, false, ◌&&◌, ◌||◌, or-true}
use mathlib.Core.List.{List}
use mathlib.Core.Option.{Option, none, some}
use lib.ListN.{length}
use lib.Dec.{eqb}
use borrow.Author.Tests.{eqb-true, eqb-false, eq-eqb}
use Rattle.terms.specs.Bits.{Bytes, Side, left, right, Place, longer, prefix}
use Rattle.terms.specs.Records.{Body, leaf_body, inner_body, Record, Slot}
use Rattle.terms.proofs.Tests.{and_left, and_right, or_cases}
use Rattle.terms.proofs.Places.{length_longer, prefix_longer, prefix_length}
use Rattle.meaning.specs.Tree.{VTree, vnone, vleaf, vinner, top_version, kid}
use Rattle.meaning.specs.Store.{find, tree_from}
use Rattle.meaning.specs.Sound.{NodeOf}
use Rattle.meaning.specs.Local.{child_version}
use Rattle.meaning.proofs.Finding.{Some, some_leaf, some_inner, there, within_node, node_cases}
use Rattle.meaning.proofs.Nodes.{node_prefix, node_top}
use Rattle.histories.proofs.Standing.{Formed, kid_node}
use Rattle.local.proofs.Slots.{kids_from}
use Rattle.rescue_rules.specs.Joining.{kid_of, parted, record_right, join_at}
use Rattle.rescue_laws.proofs.Right.{tree_found_lem, kid_found, RightAt, none_right, none_top, inner_length, right_parts}

-- what the tree u has and t lacks is of the version `next`
abbrev pub JoinedAt : ℕ → Place → VTree → VTree → Type 0
JoinedAt next p t u = (w : ℕ) (q : Place) → NodeOf w q u p → NodeOf w q t p ⊎ (w ≡ next)

-- a node on one side of a tree
in_side : (c d : Side) (w : ℕ) (q p : Place) (t : VTree) → prefix (longer c p) q ≡ true → NodeOf w q (kid d t) (longer d p) →
    NodeOf w q (kid c t) (longer c p)
in_side c d w q p t h n =
    let e : d ≡ c = sym (prefix_longer d p q (node_prefix w q (kid d t) (longer d p) n)).1 ∙ (prefix_longer c p q h).1 in
    subst (λ b. NodeOf w q (kid b t) (longer b p)) e n

pub on_side_lem : (c : Side) (w : ℕ) (q p : Place) (t : VTree) → prefix (longer c p) q ≡ true → NodeOf w q t p →
    NodeOf w q (kid c t) (longer c p)
on_side_lem c w q p vnone h n = absurd n
on_side_lem c w q p (vleaf x g) h n = absurd (omega (arith, prefix_length (longer c p) q h, length_longer c p, ap length n.1))
on_side_lem c w q p (vinner x l r) h n = elim (node_cases w x q p l r n) [
  | inl e ↦ absurd (omega (arith, prefix_length (longer c p) q h, length_longer c p, ap length e.1))
  | inr e ↦ in_side c e.0 w q p (vinner x l r) h e.1
]

pub some_of : (t : VTree) → (top_version t ≡ 0 → ⊥) → Some t
some_of vnone f = absurd (f refl)
some_of (vleaf v g) f = some_leaf
some_of (vinner v l r) f = some_inner

-- a node is the top, or on a side
pub top_cases : (w : ℕ) (q p : Place) (t : VTree) → NodeOf w q t p →
    ((top_version t ≡ w) × (p ≡ q)) ⊎ ((c : Side) × NodeOf w q (kid c t) (longer c p))
top_cases w q p vnone n = absurd n
top_cases w q p (vleaf x g) n = inl n
top_cases w q p (vinner x l r) n = node_cases w x q p l r n

module _ (next : ℕ) (p : Place) (t u : VTree) where
  -- trees that part at their tops are joined exactly if the second's top is of the next version and both sides are joined
  top_joined : (top_version t ≡ top_version u → ⊥) → JoinedAt next p t u → (top_version u ≡ 0) ⊎ (top_version u ≡ next)
  top_joined f h = go _ refl
    where
      go : (b : Bool) → eqb (top_version u) 0 ≡ b → (top_version u ≡ 0) ⊎ (top_version u ≡ next)
      go true e = inl (eqb-true (top_version u) 0 e)
      go false e = elim (h (top_version u) p (within_node (some_of u (eqb-false (top_version u) 0 e)) there))
          [ inl n ↦ absurd (f (node_top (top_version u) t p n).1) | inr k ↦ inr k ]

  sides_joined : JoinedAt next p t u → (c : Side) → JoinedAt next (longer c p) (kid c t) (kid c u)
  sides_joined h c w q n = elim (h w q (kid_node c w q u p n))
      [ inl m ↦ inl (on_side_lem c w q p t (node_prefix w q (kid c u) (longer c p) n) m) | inr e ↦ inr e ]

  joined_sides : ((w : ℕ) (q : Place) → NodeOf w q u p → top_version u ≡ 0 → ⊥) → (top_version u ≡ 0) ⊎ (top_version u ≡ next) →
      ((c : Side) → JoinedAt next (longer c p) (kid c t) (kid c u)) → JoinedAt next p t u
  joined_sides z top h w q n = elim (top_cases w q p u n) [
    | inl e ↦ inr (elim top [ inl k ↦ absurd (z w q n k) | inr k ↦ sym e.0 ∙ k ])
    | inr e ↦ elim (h e.0 w q e.1) [ inl m ↦ inl (kid_node e.0 w q t p m) | inr k ↦ inr k ]
  ]

same_or : (b : ℕ) (next : ℕ) → (b ≡ 0) ⊎ (b ≡ next) → eqb b 0 || eqb b next ≡ true
same_or b next (inl e) = rw (eq-eqb b 0 e) refl
same_or b next (inr e) = rw (eq-eqb b next e) (or-true (eqb b 0))

or_same : (b : ℕ) (next : ℕ) → eqb b 0 || eqb b next ≡ true → (b ≡ 0) ⊎ (b ≡ next)
or_same b next h = elim (or_cases (eqb b 0) (eqb b next) h) [ inl e ↦ inl (eqb-true b 0 e) | inr e ↦ inr (eqb-true b next e) ]

module _ (leaf_hash inner_hash : Bytes → Bytes → Bytes) (s : List Slot) (z : Formed s) (next : ℕ) where
  abbrev Right : ℕ → Place → VTree → Type 0
  Right v p t = RightAt leaf_hash inner_hash s z v p t

  -- the first tree is right, and joins the second
  abbrev pub Joining : Place → ℕ → VTree → VTree → Type 0
  Joining p a t u = Right a p t × JoinedAt next p t u

  module _ (n a b : ℕ) (p : Place) (len : length p + n ≡ 256) (below : Side → Bool) where
    abbrev kid_a : Side → VTree
    kid_a c = kids_from n s p c (kid_of c (find a p s))

    abbrev kid_b : Side → VTree
    kid_b c = kids_from n s p c (kid_of c (find b p s))

    abbrev Below : Type 0
    Below = (c : Side) → Right (kid_of c (find b p s)) (longer c p) (kid_b c) →
        (below c ≡ true) ↔ Joining (longer c p) (kid_of c (find a p s)) (kid_a c) (kid_b c)

    kid_a_lem : (c : Side) → kid c (tree_from n s a p) ≡ kid_a c
    kid_a_lem c = ap (kid c) (tree_found_lem s z n a p) ∙ kid_found s z n p c (find a p s)

    kid_b_lem : (c : Side) → kid c (tree_from n s b p) ≡ kid_b c
    kid_b_lem c = ap (kid c) (tree_found_lem s z n b p) ∙ kid_found s z n p c (find b p s)

    join_step : Below → Right b p (tree_from n s b p) →
        (parted (eqb a b) ((eqb b 0 || eqb b next) && record_right leaf_hash inner_hash s a p (find a p s)) below ≡ true)
        ↔ Joining p a (tree_from n s a p) (tree_from n s b p)
    join_step ih rb = go _ refl
      where
        kids_b : (c : Side) → Right (kid_of c (find b p s)) (longer c p) (kid_b c)
        kids_b = ((right_parts leaf_hash inner_hash s z n b p len).0 rb).1

        empty : (w : ℕ) (q : Place) → NodeOf w q (tree_from n s b p) p → top_version (tree_from n s b p) ≡ 0 → ⊥
        empty w q m e = subst (λ t. NodeOf w q t p) (none_top leaf_hash inner_hash s z b p _ rb e) m

        test : Bool
        test = record_right leaf_hash inner_hash s a p (find a p s)

        go : (k : Bool) → eqb a b ≡ k →
            (parted k ((eqb b 0 || eqb b next) && test) below ≡ true) ↔ Joining p a (tree_from n s a p) (tree_from n s b p)
        go true e =
            let same = eqb-true a b e in
            (λ h. (subst (λ v. Right v p (tree_from n s v p)) (sym same) rb, λ w q m. inl (subst (λ v. NodeOf w q (tree_from n s v p) p) (sym same) m)), λ h. refl)
        go false e = (into, back)
          where
            x : Bool
            x = eqb b 0 || eqb b next

            into : (x && test) && (below left && below right) ≡ true → Joining p a (tree_from n s a p) (tree_from n s b p)
            into h =
                let top = or_same b next (and_left x test (and_left (x && test) (below left && below right) h)) in
                let rec = and_right x test (and_left (x && test) (below left && below right) h) in
                let both = and_right (x && test) (below left && below right) h in
                let sides : (c : Side) → below c ≡ true = λ c. elim c as (λ c. below c ≡ true) [ true ↦ and_right (below left) (below right) both | false ↦ and_left (below left) (below right) both ] in (
                  (right_parts leaf_hash inner_hash s z n a p len).1 (rec, λ c. ((ih c (kids_b c)).0 (sides c)).0),
                  joined_sides next p (tree_from n s a p) (tree_from n s b p) empty (subst (λ v. (v ≡ 0) ⊎ (v ≡ next)) (sym rb.version) top)
                      (λ c. rw (kid_a_lem c, kid_b_lem c) ((ih c (kids_b c)).0 (sides c)).1),
                )

            back : Joining p a (tree_from n s a p) (tree_from n s b p) → (x && test) && (below left && below right) ≡ true
            back (ra, j) =
                let parts = (right_parts leaf_hash inner_hash s z n a p len).0 ra in
                let top = top_joined next p (tree_from n s a p) (tree_from n s b p) (λ k. eqb-false a b e (sym ra.version ∙ k ∙ rb.version)) j in
                let sides : (c : Side) → below c ≡ true = λ c. (ih c (kids_b c)).1 (parts.1 c, rw (← kid_a_lem c, ← kid_b_lem c) (sides_joined next p (tree_from n s a p) (tree_from n s b p) j c)) in
                rw (same_or b next (subst (λ v. (v ≡ 0) ⊎ (v ≡ next)) rb.version top), parts.0, sides left) (sides right)

  -- below a place of a whole key there is no child
  deep_kid : (v : ℕ) (p : Place) (c : Side) → length p + 0 ≡ 256 → kid_of c (find v p s) ≡ 0
  deep_kid v p c len = go (find v p s) refl
    where
      go : (o : Option Record) → find v p s ≡ o → kid_of c o ≡ 0
      go none e = refl
      go (some r) e = body r.body refl
        where
          body : (k : Body) → r.body ≡ k → child_version c k ≡ 0
          body (leaf_body k x) g = refl
          body (inner_body k d) g = absurd (omega (arith, inner_length leaf_hash inner_hash s z v p r k d e g))

  -- the test decides
  pub join_decides : (n a b : ℕ) (p : Place) → length p + n ≡ 256 → Right b p (tree_from n s b p) →
      (join_at leaf_hash inner_hash n s next a b p ≡ true) ↔ Joining p a (tree_from n s a p) (tree_from n s b p)
  join_decides zero a b p len rb =
      join_step zero a b p len (λ c. true)
      (λ c r. (λ h. (rw (deep_kid a p c len) (none_right leaf_hash inner_hash s z (longer c p)), λ w q m. absurd m), λ h. refl)) rb
  join_decides (suc n) a b p len rb =
      join_step (suc n) a b p len (λ c. join_at leaf_hash inner_hash n s next (kid_of c (find a p s)) (kid_of c (find b p s)) (longer c p))
      (λ c r. join_decides n (kid_of c (find a p s)) (kid_of c (find b p s)) (longer c p) (omega (arith, length_longer c p)) r) rb
