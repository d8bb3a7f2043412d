-- The root of a version: what `root_of` finds is a root record that lives then, and it finds one if there is one. The only file that opens
-- the rule for roots; all else cites these laws. Assumes nothing.
use Prim.Native.Nat.{ℕ}
use mathlib.Core.Path.{◌≡◌, refl, ap, sym, ◌∙◌, subst}
use mathlib.Core.Bool.{Bool, true, false, not, true≢false}
use mathlib.Core.List.{[], ◌∷◌}
use mathlib.Core.Option.{Option, none, some, some-ne-none, none-ne-some}
use lib.Dec.{leb}
use borrow.Author.Tests.{leb-true, le-leb}
use Rattle.terms.specs.Bits.{Side, same_place}
use Rattle.terms.specs.Records.{Record, Store}
use Rattle.terms.proofs.Tests.{and_left, and_right, same_place_lem}
use Rattle.meaning.specs.Tree.{VTree, vnone, top_version}
use Rattle.meaning.specs.Store.{retired_by, is_root, root_of, tree_found, tree_from, tree_at_version}
use Rattle.meaning.specs.Sound.{At, NodeOf, Lives}
use Rattle.meaning.proofs.Finding.{Lowest, miss, hit, lowest_is, same_slot, same_record_lem, Some, some_body}
use Rattle.meaning.proofs.Nodes.{node_top}

-- the test for a root record
pub is_root_lem : (v : ℕ) (r : Record) → is_root v r ≡ true → (r.place ≡ []) × Lives v r
unfolding is_root
is_root_lem v r h =
    let p = and_left (same_place r.place []) _ h in
    let l = and_right (same_place r.place []) _ h in
    (same_place_lem r.place [] p, (leb-true r.version v (and_left (leb r.version v) _ l), not-true (retired_by v r) (and_right (leb r.version v) _ l)))
  where
    not-true : (b : Bool) → not b ≡ true → b ≡ false
    not-true true e = absurd (true≢false (sym e))
    not-true false e = refl

pub root_is : (v : ℕ) (r : Record) → r.place ≡ [] → Lives v r → is_root v r ≡ true
unfolding is_root
root_is v r p l = rw (ap (λ q. same_place q []) p, le-leb r.version v l.0, l.1)

module _ (st : Store) (v : ℕ) where
  -- what is found as a root stands in a slot at the empty place and lives at v
  pub root_at_lem : (r : Record) → root_of st v ≡ some r → (i : ℕ) × At st i r × (r.place ≡ []) × Lives v r
  unfolding root_of At
  root_at_lem r e = go _ e (lowest_is (is_root v) st.slots)
    where
      go : (o : Option Record) → o ≡ some r → Lowest st.slots (is_root v) o → (i : ℕ) × At st i r × (r.place ≡ []) × Lives v r
      go none k (miss f) = absurd (none-ne-some r k)
      go (some q) k (hit i q' l g n) =
          let s : q' ≡ r = cc in
          let w = is_root_lem v q' n in
          subst (λ x. (i : ℕ) × At st i x × (x.place ≡ []) × Lives v x) s (i, (l, g), w.0, w.1)

  -- if none is found, no root record lives at v
  pub no_root_lem : root_of st v ≡ none → (i : ℕ) (r : Record) → At st i r → r.place ≡ [] → Lives v r → ⊥
  unfolding root_of At
  no_root_lem e i r a p l = go _ e (lowest_is (is_root v) st.slots)
    where
      go : (o : Option Record) → o ≡ none → Lowest st.slots (is_root v) o → ⊥
      go none k (miss f) = true≢false (sym (root_is v r p l) ∙ f i r a.0 a.1)
      go (some q) k h = some-ne-none q k

  -- the only root record that lives at v is found
  pub own_root : (i : ℕ) (r : Record) → At st i r → r.place ≡ [] → Lives v r →
      ((j : ℕ) (q : Record) → At st j q → q.place ≡ [] → Lives v q → j ≡ i) → root_of st v ≡ some r
  own_root i r a e l only = go _ refl
    where
      go : (o : Option Record) → root_of st v ≡ o → o ≡ some r
      go none k = absurd (no_root_lem k i r a e l)
      go (some q) k =
          let w = root_at_lem q k in ap some (same_slot st w.0 i q r w.1 a (only w.0 q w.1 w.2 w.3))

  -- what is read at the root's children
  abbrev onwards : Side → ℕ → VTree
  onwards b w = tree_from 255 st.slots w (b ∷ [])

  -- the tree of v: none without a root; else the root's version stands at its top
  pub root_none : root_of st v ≡ none → tree_at_version st v ≡ vnone
  unfolding tree_at_version
  root_none e = ap (λ o. tree_found o onwards) e

  pub root_some : (r : Record) → root_of st v ≡ some r → Some (tree_at_version st v) × (top_version (tree_at_version st v) ≡ r.version)
  unfolding tree_at_version
  root_some r e =
      subst (λ o. Some (tree_found o onwards) × (top_version (tree_found o onwards) ≡ r.version)) (sym e)
      (some_body r.version r.body onwards)

  -- where no two records share version and place, the record at the top of v's tree is v's root
  pub top_root : ((i j : ℕ) (r q : Record) → At st i r → At st j q → r.version ≡ q.version → r.place ≡ q.place → i ≡ j) →
      (i : ℕ) (r : Record) → At st i r → r.place ≡ [] → NodeOf r.version r.place (tree_at_version st v) [] → root_of st v ≡ some r
  top_root unique i r a p n = go _ refl
    where
      at_top : NodeOf r.version [] (tree_at_version st v) []
      at_top = subst (λ q. NodeOf r.version q (tree_at_version st v) []) p n

      go : (o : Option Record) → root_of st v ≡ o → root_of st v ≡ some r
      go none e = absurd (subst (λ t. NodeOf r.version [] t []) (root_none e) at_top)
      go (some q) e =
          let w = root_at_lem q e in
          let same : q.version ≡ r.version = sym (root_some q e).1 ∙ (node_top r.version (tree_at_version st v) [] at_top).1 in
          e ∙ ap some (same_record_lem st unique w.0 i q r w.1 a same (w.2 ∙ sym p))
