-- What becomes of a tree: by the change of its grants it stays, vanishes, or has the new version at its top. So a tree whose grants stay is
-- unchanged, and the new records below a new inner node are those of its children, in their order. Assumes nothing.
use Prim.Native.Nat.{ℕ, ◌+◌, ◌<◌}
use native.Mathlib.Omega.{arith}
use mathlib.Core.Path.{◌≡◌, refl, ap, ap₂, sym, ◌∙◌, subst, subst₂}
use mathlib.Core.Logic.{inl, inr, ◌↔◌}
use mathlib.Core.Bool.{Bool, true, false}
use mathlib.Core.List.{List, [], ◌∷◌, ◌++◌, append_assoc}
use lib.ListN.{length}
use borrow.Author.Tests.{eq-eqb, ne_eqb}
use Rattle.terms.specs.Bits.{Bytes, left, right, Place, longer, filter}
use Rattle.terms.specs.Records.{Grant, Record}
use Rattle.terms.proofs.Lists.{filter_append}
use Rattle.meaning.specs.Tree.{Tree, none, leaf, inner, grants, VTree, vnone, vleaf, vinner, unversioned, grants_in, top_version, kid}
use Rattle.meaning.specs.Tree.{same_grants, node_version, versioned}
use Rattle.meaning.specs.Store.{record_at, records_below}
use Rattle.meaning.specs.Sound.{NodeOf}
use Rattle.meaning.proofs.Finding.{Some, some_leaf, some_inner}
use Rattle.meaning.proofs.Versions.{same_grants_eq, same_grants_refl, versioned_same}
use Rattle.meaning.proofs.Shaped.{Shaped, shaped_same}
use Rattle.steps.specs.Step.{Change, updated, deleted, unchanged, Node, Outcome, outcome, ends_at, places_at, fork}
use Rattle.steps.specs.Given.{Among, Older, change_by, change_of, is_new, Gives}
use Rattle.steps.proofs.Among.{among_left, no_nodes}

-- where the grants differ, the version is new
pub differing : (new : ℕ) (old : VTree) (gs : List Grant) → same_grants (grants_in old) gs ≡ false → node_version new old gs ≡ new
unfolding node_version
differing new old gs h = rw h

-- where some are left, the change is an update
pub several_left : (gs : List Grant) → 1 < length gs → change_by false gs ≡ updated
several_left [] l = absurd (omega arith)
several_left (g ∷ gs) l = refl

pub data Became (new : ℕ) (t now : VTree) : Change → Type 0 where
  stayed : now ≡ t → Became new t now unchanged
  vanished : now ≡ vnone → Became new t now deleted
  renewed : Some now → top_version now ≡ new → Became new t now updated

became_new : (new : ℕ) (p : Place) (t : VTree) (now : Tree) → Shaped p now → same_grants (grants_in t) (grants now) ≡ false →
    Became new t (versioned new t now) (change_by false (grants now))
became_new new p t none w h = vanished refl
became_new new p t (leaf g) w h = renewed some_leaf (differing new t (g ∷ []) h)
became_new new p t (inner l r) w h =
    subst (Became new t (versioned new t (inner l r))) (sym (several_left (grants l ++ grants r) w.1))
    (renewed some_inner (differing new t (grants l ++ grants r) h))

pub became : (new n : ℕ) (p : Place) (t : VTree) (now : Tree) → length p + n ≡ 256 → Shaped p (unversioned t) → Shaped p now →
    Became new t (versioned new t now) (change_of (grants_in t) (grants now))
became new n p t now e s w = go (same_grants (grants_in t) (grants now)) refl
  where
    go : (b : Bool) → same_grants (grants_in t) (grants now) ≡ b → Became new t (versioned new t now) (change_by b (grants now))
    go true h =
        let same : now ≡ unversioned t = sym (shaped_same n p (unversioned t) now e s w (same_grants_eq (grants_in t) (grants now) h)) in
        stayed (ap (versioned new t) same ∙ versioned_same new t)
    go false h = became_new new p t now w h

module _ (leaf_hash inner_hash : Bytes → Bytes → Bytes) (new : ℕ) where
  -- the new records at a place, and strictly below it
  abbrev new_at : Place → VTree → List Record
  new_at p t = filter (is_new new) (record_at leaf_hash inner_hash p t)

  abbrev new_below : Place → VTree → List Record
  new_below p t = filter (is_new new) (records_below leaf_hash inner_hash p t)

  below_inner : (p : Place) (v : ℕ) (l r : VTree) →
      new_below p (vinner v l r)
      ≡ new_below (longer left p) l ++ new_below (longer right p) r ++ (new_at (longer left p) l ++ new_at (longer right p) r)
  below_inner p v l r =
      rw (filter_append, filter_append, filter_append)
      (append_assoc (new_below (longer left p) l ++ new_below (longer right p) r) (new_at (longer left p) l) (new_at (longer right p) r))

  -- an older tree has none
  older_at : (p : Place) (t : VTree) → Older new p t → new_at p t ≡ []
  older_at p vnone o = refl
  older_at p (vleaf v g) o = let l = o v p (refl, refl) in rw (ne_eqb v new (omega arith))
  older_at p (vinner v l r) o = let l = o v p (inl (refl, refl)) in rw (ne_eqb v new (omega arith))

  older_below : (p : Place) (t : VTree) → Older new p t → new_below p t ≡ []
  older_below p vnone o = refl
  older_below p (vleaf v g) o = refl
  older_below p (vinner v l r) o =
      let ol : Older new (longer left p) l = λ w q n. o w q (inr (inl n)) in
      let or : Older new (longer right p) r = λ w q n. o w q (inr (inr n)) in
      below_inner p v l r
      ∙ ap₂ ◌++◌ (ap₂ ◌++◌ (older_below (longer left p) l ol) (older_below (longer right p) r or))
      (ap₂ ◌++◌ (older_at (longer left p) l ol) (older_at (longer right p) r or))

  -- the new record at a place is that of an updated node
  places_new : (p : Place) (t now : VTree) (c : Change) → Older new p t → Became new t now c → places_at leaf_hash inner_hash c p now ≡ new_at p now
  places_new p t now unchanged o (stayed e) = sym (ap (new_at p) e ∙ older_at p t o)
  places_new p t now deleted o (vanished e) = ap (new_at p) (sym e)
  places_new p t now updated o (renewed s e) = go now s e
    where
      go : (u : VTree) → Some u → top_version u ≡ new → record_at leaf_hash inner_hash p u ≡ new_at p u
      go vnone s e = elim s [ ]
      go (vleaf v g) s e = rw (eq-eqb v new e)
      go (vinner v l r) s e = rw (eq-eqb v new e)

  -- where the tree stays, it is unchanged, nothing is new and nothing ends
  pub unchanged_gives : (p : Place) (t : VTree) → Older new p t → Gives leaf_hash inner_hash new p t (unversioned t) (outcome unchanged t)
  unchanged_gives p t o = record {
    node_is = sym (versioned_same new t);
    change_is = ap (λ b. change_by b (grants_in t)) (sym (same_grants_refl (grants_in t)));
    fresh_is = sym (older_below p t o);
    retired_is = λ v q. (λ h. absurd h, λ h. absurd (h.1 h.0));
  }

  pub gives_unchanged : (p : Place) (t : VTree) (o : Outcome) →
      Older new p t → Gives leaf_hash inner_hash new p t (unversioned t) o → o ≡ outcome unchanged t
  gives_unchanged p t o old g =
      let node : o.node ≡ t = g.node_is ∙ versioned_same new t in
      let change : o.change ≡ unchanged = g.change_is ∙ ap (λ b. change_by b (grants_in t)) (same_grants_refl (grants_in t)) in
      let fresh : o.fresh ≡ [] = g.fresh_is ∙ ap (new_below p) node ∙ older_below p t old in
      let retired : o.retired ≡ [] =
      no_nodes o.retired (λ v q h.
      let m = (g.retired_is v q).0 (among_left v q o.retired (ends_at o.change p t) h) in
      m.1 (subst (λ u. NodeOf v q u p) (sym node) m.0)) in
      λ j. record { change = change j; node = node j; fresh = fresh j; retired = retired j }

  -- a step made at p, with what became of the tree there
  pub record Made (p : Place) (t : VTree) (now : Tree) (o : Outcome) : Type 0 where
    pub gives : Gives leaf_hash inner_hash new p t now o
    pub older : Older new p t
    pub became : Became new t o.node o.change

  pub made : (n : ℕ) (p : Place) (t : VTree) (now : Tree) (o : Outcome) → length p + n ≡ 256 → Shaped p (unversioned t) → Shaped p now →
      Older new p t → Gives leaf_hash inner_hash new p t now o → Made p t now o
  made n p t now o e s w old g = record {
    gives = g;
    older = old;
    became = subst₂ (Became new t) (sym g.node_is) (sym g.change_is) (became new n p t now e s w);
  }

  -- a new inner node above two steps made, where the grants differ and two or more are left
  pub fork_gives : (p : Place) (t : VTree) (A B : Tree) (a b : Outcome) (ending : List Node) →
      same_grants (grants_in t) (grants A ++ grants B) ≡ false → 1 < length (grants A ++ grants B) →
      Made (longer left p) (kid left t) A a → Made (longer right p) (kid right t) B b →
      ((v : ℕ) (q : Place) → Among v q (a.retired ++ b.retired ++ ending ++ ends_at updated p t)
      ↔ (NodeOf v q t p × (NodeOf v q (vinner new a.node b.node) p → ⊥))) →
      Gives leaf_hash inner_hash new p t (inner A B) (fork leaf_hash inner_hash new p a b ending)
  fork_gives p t A B a b ending d l x y ends = record {
    node_is =
        ap₂ (vinner new) x.gives.node_is y.gives.node_is
        ∙ ap (λ w. vinner w (versioned new (kid left t) A) (versioned new (kid right t) B)) (sym (differing new t (grants A ++ grants B) d));
    change_is = sym (ap (λ u. change_by u (grants A ++ grants B)) d ∙ several_left (grants A ++ grants B) l);
    fresh_is =
        ap₂ ◌++◌ (ap₂ ◌++◌ x.gives.fresh_is y.gives.fresh_is)
        (ap₂ ◌++◌ (places_new (longer left p) (kid left t) a.node a.change x.older x.became)
        (places_new (longer right p) (kid right t) b.node b.change y.older y.became))
        ∙ sym (below_inner p new a.node b.node);
    retired_is = ends;
  }
